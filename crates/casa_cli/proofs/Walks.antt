-- What clap has checked of the values of one option, once its walk over the words of a subcommand has passed.
use Rattle.std.proofs.Common.{◌≡◌, ◌∙◌, ◌<◌, ◌+◌, ◌==◌, ◌&&◌, ◌⊎◌, ℕ, Bool, true, false, cond, zero, suc, refl, sym, ap, subst, inl, inr, arith, List, [], ◌∷◌, ◌++◌, length, drop, min, Option, Some, None, is_some, not, true≢false, length-append}
use Rattle.std.specs.Prelude.{encode_utf8, find, fold, nat_lt, slice_get, unwrap_or}
use Rattle.std.specs.List.{list_all}
use Rattle.std.specs.Option.{option_map_or}
use Rattle.std.specs.Str.{bytes_eq, chars}
use Rattle.std.proofs.lemmas.Slice.Eq.{bytes_eq-Decides}
use Rattle.clap.specs.Facts.{unwrap_or_range}
use Rattle.clap.specs.Faults.{action_fault, bundle_step_fault, flag_word_fault, bundle_fault, check_fault, flags_fault, level_fault, long_fault, option_fault, positional_fault, react_fault, settle_fault, short_fault, step_fault, stray_fault, turn_fault, use_fault, values_fault, walk_fault, word_fault}
use Rattle.clap.specs.Kinds.{Kinds, or_else, range_kinds}
use Rattle.clap.specs.Lexer.{long_of, short_of}
use Rattle.clap.specs.Simple.{Shape}
use Rattle.clap.specs.Walk.{Held, Outcome, Row, Rule, Step, Text, Waiting, Walk, action_of, after_flag, after_step, arg_by_id, arg_by_index, arg_by_long, arg_by_short, at_row, attached_value, bundle_met, bundle_step, count_of, counted, default_rows, done, flag_met, has_row, idle, is_pending, long_met, long_or_other, more_values, most_values, new_count, next, nothing_held, option, option_met, option_word, plain, plain_word, positional, reacted, reading_by, refused, rows_after, settled, settled_rows, short_met, short_or_plain, subcommand, takes_several, takes_values, to_positional, trailing, used, used_as, used_by_id, value, values_or_missing, waits, walk, walk_from, walked, walked_from, with_count, with_default, with_values, without, word_met}
use Rattle.clap.specs.declared.builder.action.ArgAction.{ArgAction}
use Rattle.clap.specs.declared.builder.action.ArgAction.TheVariants.{Set, SetTrue, SetFalse, Append, Count}
use Rattle.clap.specs.declared.builder.value_parser.Reading.{Reading}
use Rattle.clap.specs.declared.error.kind.ErrorKind.TheVariants.{InvalidValue, TooFewValues, TooManyValues, WrongNumberOfValues}
use Rattle.clap.specs.declared.parser.matches.ValueSource.{ValueSource}
use Rattle.clap.specs.declared.parser.matches.ValueSource.TheVariants.{CommandLine, DefaultValue}
use Rattle.clap.proofs.FaultLemmas.{past}

pub or_else-left : (a b : Kinds) → or_else a b ≡ [] → a ≡ []
or_else-left [] b e = refl
or_else-left (k ∷ ks) b e = e

pub or_else-right : (a b : Kinds) → or_else a b ≡ [] → b ≡ []
or_else-right [] b e = e
or_else-right (k ∷ ks) b e = absurd (cc)

-- an option that takes a value and has no default
pub record IsValued (a : Rule) : Type 0 where
  pub sets : action_of a ≡ Set
  pub takes : nat_lt 0 (unwrap_or_range a.range).start_inclusive ≡ true
  pub defaults : a.defaults ≡ []

no_value : (most least : ℕ) → nat_lt 0 least ≡ true → range_kinds least most 0 ≡ [] → ⊥
no_value most least some e = go (nat_lt 0 least) some e
  where
    go : (b : Bool) → b ≡ true → cond (b && true) (InvalidValue ∷ [])
        (cond (least == most) (cond (least == 0) [] (WrongNumberOfValues ∷ []))
        (cond (nat_lt 0 least) (TooFewValues ∷ []) (cond (nat_lt most 0) (TooManyValues ∷ []) []))) ≡ [] → ⊥
    go true is f = cc
    go false is f = cc

-- the values of a use that passes
use_values : (a : Rule) (again : Bool) (values : List Text) (rows : List Row) → action_of a ≡ Set
    → nat_lt 0 (unwrap_or_range a.range).start_inclusive ≡ true → use_fault again a values rows ≡ []
    → (values_fault a (values_or_missing a values) ≡ []) × (0 < length (values_or_missing a values))
use_values a again [] rows set least e =
    let ranged : range_kinds (unwrap_or_range a.range).start_inclusive (most_values a) 0 ≡ [] = or_else-left _ _ e in
    absurd (no_value (most_values a) (unwrap_or_range a.range).start_inclusive least ranged)
use_values a again (v ∷ vs) rows set least e =
    let acted = or_else-right _ _ e in
    let checked = subst (λ x. action_fault x again a (v ∷ vs) rows ≡ []) set acted in
    (or_else-right _ _ checked, omega arith)

values_fault-append : (a : Rule) (vs ws : List Text) → values_fault a vs ≡ [] → values_fault a ws ≡ [] → values_fault a (vs ++ ws) ≡ []
values_fault-append a [] ws first more = more
values_fault-append a (v ∷ vs) ws first more =
    past _ _ (or_else-left _ _ first) ∙ values_fault-append a vs ws (or_else-right _ _ first) more

module _ (q : Rule) where
  -- a row of the option has values that passed
  abbrev pub IsPassed : Row → Type 0
  IsPassed r = bytes_eq r.id q.id ≡ true
      → (values_fault q r.values ≡ []) × (0 < length r.values) × (r.reading ≡ reading_by q)

  abbrev pub ArePassed : List Row → Type 0
  ArePassed [] = Unit {0}
  ArePassed (r ∷ rs) = IsPassed r × ArePassed rs

  -- the rule is the option's own, or has another name
  abbrev pub IsBeside : Rule → Type 0
  IsBeside a = (a ≡ q) ⊎ (bytes_eq a.id q.id ≡ false)

  abbrev pub AreBeside : List Rule → Type 0
  AreBeside [] = Unit {0}
  AreBeside (a ∷ rest) = IsBeside a × AreBeside rest

  -- the option stands in a list of rules, of which no other has its name
  pub beside_at : (before after : List Rule) → list_all (λ a. not (bytes_eq a.id q.id)) before ≡ true
      → list_all (λ a. not (bytes_eq a.id q.id)) after ≡ true → AreBeside (before ++ q ∷ after)
  beside_at [] after e f = (inl refl, others after f)
    where
      step : (a : Rule) (rest : List Rule) (b : Bool) → bytes_eq a.id q.id ≡ b
          → (list_all (λ x. not (bytes_eq x.id q.id)) rest ≡ true → AreBeside rest)
          → (not b && list_all (λ x. not (bytes_eq x.id q.id)) rest) ≡ true → IsBeside a × AreBeside rest
      step a rest true is more g = absurd (true≢false (sym g))
      step a rest false is more g = (inr is, more g)

      others : (c : List Rule) → list_all (λ x. not (bytes_eq x.id q.id)) c ≡ true → AreBeside c
      others [] g = tt
      others (a ∷ rest) g = step a rest (bytes_eq a.id q.id) refl (others rest) g
  beside_at (a ∷ before) after e f = step (bytes_eq a.id q.id) refl (λ g. beside_at before after g f) e
    where
      step : (b : Bool) → bytes_eq a.id q.id ≡ b
          → (list_all (λ x. not (bytes_eq x.id q.id)) before ≡ true → AreBeside (before ++ q ∷ after))
          → (not b && list_all (λ x. not (bytes_eq x.id q.id)) before) ≡ true → IsBeside a × AreBeside (before ++ q ∷ after)
      step true is more g = absurd (true≢false (sym g))
      step false is more g = (inr is, more g)

  passed-append : (xs ys : List Row) → ArePassed xs → ArePassed ys → ArePassed (xs ++ ys)
  passed-append [] ys left right = right
  passed-append (x ∷ xs) ys left right = (left.0, passed-append xs ys left.1 right)

  at_row-passed : (id : Text) (change : Row → List Row) (missing rows : List Row) → ArePassed rows → ArePassed missing
      → ((r : Row) → bytes_eq r.id id ≡ true → IsPassed r → ArePassed (change r)) → ArePassed (at_row id change missing rows)
  at_row-passed id change missing [] passed more changed = more
  at_row-passed id change missing (r ∷ rs) passed more changed =
      go (bytes_eq r.id id) refl (at_row-passed id change missing rs passed.1 more changed)
    where
      go : (b : Bool) → bytes_eq r.id id ≡ b → ArePassed (at_row id change missing rs)
          → ArePassed (cond b (change r ++ rs) (r ∷ at_row id change missing rs))
      go true e rest = passed-append (change r) rs (changed r e passed.0) passed.1
      go false e rest = (passed.0, rest)

  kept : (id : Text) (rows : List Row) → ArePassed rows → ArePassed (without id rows)
  kept id rows passed = at_row-passed id (λ _. []) [] rows passed tt (λ r same is. tt)

  -- the values of a use of the option are added
  with_values-passed : (vs : List Text) (rows : List Row) → values_fault q vs ≡ [] → 0 < length vs
      → ArePassed rows → ArePassed (with_values q.id (reading_by q) CommandLine vs rows)
  with_values-passed vs rows checked some passed =
      at_row-passed q.id (more_values CommandLine vs) _ rows passed (λ e. (checked, some, refl), tt) more
    where
      more : (r : Row) → bytes_eq r.id q.id ≡ true → IsPassed r → ArePassed (more_values CommandLine vs r)
      more r same is = (
        λ e.
            let old = is e in (
              values_fault-append q r.values vs old.0 checked,
              omega (arith, length-append r.values vs),
              old.2,
            ),
        tt,
      )

  own_used-passed : IsValued q → (again : Bool) (values : List Text) (rows : List Row) → use_fault again q values rows ≡ []
      → ArePassed rows → ArePassed (used q values rows)
  own_used-passed valued again values rows e passed =
      let new = use_values q again values rows valued.sets valued.takes e in
      let set_rows = with_values-passed (values_or_missing q values) (without q.id rows) new.0 new.1 (kept q.id rows passed) in
      subst (λ x. ArePassed (used_as x q.id (reading_by q) (values_or_missing q values) rows)) (sym valued.sets) set_rows

  -- another option's row is not the option's
  module _ (id : Text) (other : bytes_eq id q.id ≡ false) where
    not_own : (name : Text) → bytes_eq name id ≡ true → bytes_eq name q.id ≡ true → ⊥
    not_own name same e =
        let ids : name ≡ id = (bytes_eq-Decides name id).0 same in
        let own : bytes_eq id q.id ≡ true = subst (λ t. bytes_eq t q.id ≡ true) ids e in
        true≢false (sym own ∙ other)

    other_values-passed : (how : Reading) (s : ValueSource) (vs : List Text) (rows : List Row) → ArePassed rows
        → ArePassed (with_values id how s vs rows)
    other_values-passed how s vs rows passed =
        at_row-passed id (more_values s vs) _ rows passed (λ e. absurd (true≢false (sym e ∙ other)), tt)
        (λ r same is. (λ e. absurd (not_own r.id same e), tt))

    other_count-passed : (how : Reading) (s : ValueSource) (n : ℕ) (rows : List Row) → ArePassed rows
        → ArePassed (with_count id how s n rows)
    other_count-passed how s n rows passed =
        at_row-passed id (new_count s n) _ rows passed (λ e. absurd (true≢false (sym e ∙ other)), tt)
        (λ r same is. (λ e. absurd (not_own r.id same e), tt))

    other_counted-passed : (how : Reading) (vs : List Text) (rows : List Row) → ArePassed rows → ArePassed (counted id how vs rows)
    other_counted-passed how [] rows passed = other_count-passed how CommandLine (min (count_of id rows + 1) 255) (without id rows) (kept id rows passed)
    other_counted-passed how (v ∷ vs) rows passed = other_values-passed how CommandLine (v ∷ vs) (without id rows) (kept id rows passed)

    other_used-passed : (x : ArgAction) (how : Reading) (vs : List Text) (rows : List Row) → ArePassed rows
        → ArePassed (used_as x id how vs rows)
    other_used-passed Set how vs rows passed = other_values-passed how CommandLine vs (without id rows) (kept id rows passed)
    other_used-passed SetTrue how vs rows passed = other_values-passed how CommandLine vs (without id rows) (kept id rows passed)
    other_used-passed SetFalse how vs rows passed = other_values-passed how CommandLine vs (without id rows) (kept id rows passed)
    other_used-passed Append how vs rows passed = other_values-passed how CommandLine vs rows passed
    other_used-passed Count how vs rows passed = other_counted-passed how vs rows passed
    other_used-passed _ how vs rows passed = passed

    other_defaults-passed : (how : Reading) (vs : List Text) (rows : List Row) → ArePassed rows → ArePassed (default_rows id how vs rows)
    other_defaults-passed how [] rows passed = passed
    other_defaults-passed how (v ∷ vs) rows passed = other_values-passed how DefaultValue (v ∷ vs) rows passed

  used-passed : IsValued q → (a : Rule) (again : Bool) (values : List Text) (rows : List Row) → IsBeside a
      → use_fault again a values rows ≡ [] → ArePassed rows → ArePassed (used a values rows)
  used-passed valued a again values rows beside e passed = elim beside [
    | inl is ↦ subst (λ x. use_fault again x values rows ≡ [] → ArePassed (used x values rows)) (sym is)
        (λ f. own_used-passed valued again values rows f passed) e
    | inr other ↦ other_used-passed a.id other (action_of a) (reading_by a) (values_or_missing a values) rows passed
  ]

  -- the option gets no default
  default-passed : IsValued q → (a : Rule) (rows : List Row) → IsBeside a → ArePassed rows → ArePassed (with_default rows a)
  default-passed valued a rows beside passed = go (has_row a.id rows)
    where
      defaults : (o : (a ≡ q) ⊎ (bytes_eq a.id q.id ≡ false)) → ArePassed (default_rows a.id (reading_by a) a.defaults rows)
      defaults (inl is) =
          subst (λ vs. ArePassed (default_rows a.id (reading_by a) vs rows)) (sym (ap (λ (x : Rule). x.defaults) is ∙ valued.defaults)) passed
      defaults (inr other) = other_defaults-passed a.id other (reading_by a) a.defaults rows passed

      go : (b : Bool) → ArePassed (cond b rows (default_rows a.id (reading_by a) a.defaults rows))
      go true = passed
      go false = defaults beside

  defaults-passed : IsValued q → (c : List Rule) → AreBeside c → (rows : List Row) → ArePassed rows → ArePassed (fold with_default rows c)
  defaults-passed valued [] beside rows passed = passed
  defaults-passed valued (a ∷ rest) beside rows passed =
      defaults-passed valued rest beside.1 _ (default-passed valued a rows beside.0 passed)

  beside_of : (p : Rule → Bool) (c : List Rule) (a : Rule) → AreBeside c → find p c ≡ Some a → IsBeside a
  beside_of p [] a beside e = absurd (cc)
  beside_of p (x ∷ xs) a beside e = go (p x) e (λ f. beside_of p xs a beside.1 f)
    where
      go : (b : Bool) → cond b (Some x) (find p xs) ≡ Some a → (find p xs ≡ Some a → IsBeside a) → IsBeside a
      go true f rest =
          let is : x ≡ a = ap (λ (o : Option Rule). unwrap_or o a) f in
          subst IsBeside is beside.0
      go false f rest = rest f

  module _ (valued : IsValued q) (s : Shape) (beside : AreBeside s.rules) where
    abbrev again : Bool
    again = s.args_override_self

    -- the option that was waiting for its value is used
    settled-passed : (h : Held) → settle_fault s.rules again h ≡ [] → ArePassed h.rows → ArePassed (settled s.rules h).rows
    settled-passed h e passed = go h.pending e
      where
        at : (id : Text) (values : List Text) (o : Option Rule) → arg_by_id s.rules id ≡ o
            → option_map_or (λ a. use_fault again a values h.rows) o [] ≡ [] → ArePassed (used_by_id o values h.rows)
        at id values None is f = passed
        at id values (Some a) is f = used-passed valued a again values h.rows (beside_of _ s.rules a beside is) f passed

        go : (p : Option (Text × List Text))
            → option_map_or (λ p. option_map_or (λ a. use_fault again a p.1 h.rows) (arg_by_id s.rules p.0) []) p [] ≡ []
            → ArePassed (settled_rows s.rules p h.rows)
        go None f = passed
        go (Some p) f = at p.0 p.1 (arg_by_id s.rules p.0) refl f

    reacted-passed : (a : Rule) (values : List Text) (h : Held) → IsBeside a → react_fault s.rules again a values h ≡ []
        → ArePassed h.rows → ArePassed (reacted s.rules a values h).rows
    reacted-passed a values h own e passed =
        used-passed valued a again values (settled s.rules h).rows own (or_else-right _ _ e) (settled-passed h (or_else-left _ _ e) passed)

    option_met-passed : (a : Rule) (v : Option Text) (h : Held) → IsBeside a → option_fault s.rules again a v h ≡ []
        → ArePassed h.rows → ArePassed (option_met s.rules a v h).0.rows
    option_met-passed a None h own e passed = settled-passed h e passed
    option_met-passed a (Some v) h own e passed = reacted-passed a (v ∷ []) h own e passed

    -- `--name` or `--name=value`
    long_at-passed : (a : Rule) (b : Bool) (v : Option Text) (h : Held) → IsBeside a
        → cond b (option_fault s.rules again a v h) (cond (is_some v) (TooManyValues ∷ []) (react_fault s.rules again a [] h)) ≡ []
        → ArePassed h.rows → ArePassed (cond b (option_met s.rules a v h) (flag_met s.rules a v h)).0.rows
    long_at-passed a true v h own e passed = option_met-passed a v h own e passed
    long_at-passed a false None h own e passed = reacted-passed a [] h own e passed
    long_at-passed a false (Some v) h own e passed = passed

    long_met-passed : (name : Text) (o : Option Rule) (v : Option Text) (h : Held) → arg_by_long s.rules name ≡ o
        → long_fault s.rules again o v h ≡ [] → ArePassed h.rows → ArePassed (long_met s.rules o v h).0.rows
    long_met-passed name None v h is e passed = passed
    long_met-passed name (Some a) v h is e passed = long_at-passed a (takes_values a) v h (beside_of _ s.rules a beside is) e passed

    -- the characters of `-abc`
    short_at-passed : (a : Rule) (b : Bool) (v : Option Text) (h : Held) (onward : Held → Held × Outcome) (faults : Held → Kinds) → IsBeside a
        → ((g : Held) → faults g ≡ [] → ArePassed g.rows → ArePassed (onward g).0.rows)
        → cond b (option_fault s.rules again a v h) (or_else (react_fault s.rules again a [] h) (faults (reacted s.rules a [] h))) ≡ []
        → ArePassed h.rows → ArePassed (cond b (option_met s.rules a v h) (onward (reacted s.rules a [] h))).0.rows
    short_at-passed a true v h onward faults own step e passed = option_met-passed a v h own e passed
    short_at-passed a false v h onward faults own step e passed =
        step (reacted s.rules a [] h) (or_else-right _ _ e) (reacted-passed a [] h own (or_else-left _ _ e) passed)

    short_met-passed : (x : ℕ) (o : Option Rule) (rest : Text) (h : Held) (onward : Held → Held × Outcome) (faults : Held → Kinds)
        → arg_by_short s.rules x ≡ o → ((g : Held) → faults g ≡ [] → ArePassed g.rows → ArePassed (onward g).0.rows)
        → short_fault s.rules again o rest h faults ≡ [] → ArePassed h.rows → ArePassed (short_met s.rules o rest h onward).0.rows
    short_met-passed x None rest h onward faults is step e passed = passed
    short_met-passed x (Some a) rest h onward faults is step e passed =
        short_at-passed a (takes_values a) (attached_value rest) h onward faults (beside_of _ s.rules a beside is) step e passed

    bundle_step-passed : (o : Option ℕ) (flags : Text) (skip : ℕ) (so_far : Outcome) (h : Held)
        (onward : Text → ℕ → Outcome → Held → Held × Outcome) (faults : Text → ℕ → Held → Kinds)
        → ((t : Text) (n : ℕ) (so : Outcome) (g : Held) → faults t n g ≡ [] → ArePassed g.rows → ArePassed (onward t n so g).0.rows)
        → bundle_step_fault s.rules again o flags skip h faults ≡ [] → ArePassed h.rows
        → ArePassed (bundle_step s.rules o flags skip so_far h onward).0.rows
    bundle_step-passed None flags skip so_far h onward faults step e passed = passed
    bundle_step-passed (Some x) flags zero so_far h onward faults step e passed =
        let rest = drop (length (encode_utf8 x)) flags in
        short_met-passed x (arg_by_short s.rules x) rest h (onward rest 0 done) (faults rest 0) refl (step rest 0 done) e passed
    bundle_step-passed (Some x) flags (suc skip) so_far h onward faults step e passed =
        step (drop (length (encode_utf8 x)) flags) skip so_far h e passed

    bundle_met-passed : (k : ℕ) (flags : Text) (skip : ℕ) (so_far : Outcome) (h : Held) → flags_fault s.rules again k flags skip h ≡ []
        → ArePassed h.rows → ArePassed (bundle_met s.rules k flags skip so_far h).0.rows
    unfolding bundle_met flags_fault
    bundle_met-passed zero flags skip so_far h e passed = passed
    bundle_met-passed (suc k) flags skip so_far h e passed =
        bundle_step-passed (slice_get (chars flags) 0) flags skip so_far h (bundle_met s.rules k) (flags_fault s.rules again k)
        (bundle_met-passed k) e passed

    -- a word that is no flag, and what follows a flag
    option_word-passed : (o : Option Rule) (id word : Text) (h : Held) → ArePassed h.rows → ArePassed (option_word o id word h).0.rows
    option_word-passed None id word h passed = passed
    option_word-passed (Some a) id word h passed = passed

    plain_word-passed : (waiting : Waiting) (word : Text) (h : Held) → ArePassed h.rows → ArePassed (plain_word s.rules waiting word h).0.rows
    plain_word-passed idle word h passed = passed
    plain_word-passed (option id) word h passed = option_word-passed (arg_by_id s.rules id) id word h passed
    plain_word-passed positional word h passed = passed

    after_flag-passed : (waiting : Waiting) (word : Text) (h : Held) (o : Outcome) → ArePassed h.rows
        → ArePassed (after_flag s.rules waiting word h o).0.rows
    after_flag-passed waiting word h done passed = passed
    after_flag-passed waiting word h (waits id) passed = passed
    after_flag-passed waiting word h plain passed = plain_word-passed waiting word h passed
    after_flag-passed waiting word h refused passed = plain_word-passed waiting word h passed

    short_or_plain-passed : (waiting : Waiting) (word : Text) (o : Option Text) (h : Held)
        → option_map_or (λ flags. bundle_fault s.rules again flags h) o [] ≡ [] → ArePassed h.rows
        → ArePassed (short_or_plain s.rules waiting word o h).0.rows
    short_or_plain-passed waiting word None h e passed = plain_word-passed waiting word h passed
    short_or_plain-passed waiting word (Some flags) h e passed =
        after_flag-passed waiting word _ _ (bundle_met-passed (length flags) flags h.skip plain (record h { skip = 0 }) e passed)

    long_or_other-passed : (waiting : Waiting) (word : Text) (o : Option (Text × Option Text)) (h : Held)
        → flag_word_fault s.rules again o word h ≡ [] → ArePassed h.rows → ArePassed (long_or_other s.rules waiting word o h).0.rows
    long_or_other-passed waiting word None h e passed = short_or_plain-passed waiting word (short_of word) h e passed
    long_or_other-passed waiting word (Some p) h e passed =
        after_flag-passed waiting word _ _ (long_met-passed p.0 (arg_by_long s.rules p.0) p.1 h refl e passed)

    -- a word, where no subcommand can follow
    dashes-passed : (b : Bool) (waiting : Waiting) (position : ℕ) (word : Text) (h : Held)
        → cond b [] (flag_word_fault s.rules again (long_of word) word h) ≡ [] → ArePassed h.rows
        → ArePassed (cond b (h, trailing position) (long_or_other s.rules waiting word (long_of word) h)).0.rows
    dashes-passed true waiting position word h e passed = passed
    dashes-passed false waiting position word h e passed = long_or_other-passed waiting word (long_of word) h e passed

    word_met-passed : (is_trailing : Bool) (waiting : Waiting) (position : ℕ) (word : Text) (h : Held)
        → word_fault s [] is_trailing waiting word h ≡ [] → ArePassed h.rows
        → ArePassed (word_met s.rules [] is_trailing waiting position word h).0.rows
    word_met-passed true waiting position word h e passed = passed
    word_met-passed false idle position word h e passed = dashes-passed (bytes_eq word (45 ∷ 45 ∷ [])) idle position word h e passed
    word_met-passed false (option id) position word h e passed =
        dashes-passed (bytes_eq word (45 ∷ 45 ∷ [])) (option id) position word h e passed
    word_met-passed false positional position word h e passed =
        dashes-passed (bytes_eq word (45 ∷ 45 ∷ [])) positional position word h e passed

    to_positional-passed : (o : Option Rule) (word : Text) (w : Walk) (h : Held)
        → option_map_or (λ a. positional_fault s.rules again a h) o (stray_fault s) ≡ [] → ArePassed h.rows
        → ArePassed (to_positional s.rules o word w h).held.rows
    to_positional-passed None word w h e passed = passed
    to_positional-passed (Some a) word w h e passed = go (is_pending a h.pending && takes_several a) e
      where
        go : (b : Bool) → cond b [] (settle_fault s.rules again h) ≡ [] → ArePassed (cond b h (settled s.rules h)).rows
        go true f = passed
        go false f = settled-passed h f passed

    after_step-passed : (step : Step) (word : Text) (w : Walk) (h : Held) → step_fault s w.position h step ≡ [] → ArePassed h.rows
        → ArePassed (after_step s.rules word w h step).held.rows
    after_step-passed (next waiting) word w h e passed = passed
    after_step-passed (trailing position) word w h e passed = passed
    after_step-passed (subcommand name) word w h e passed = passed
    after_step-passed value word w h e passed = to_positional-passed (arg_by_index s.rules w.position) word w h e passed

    walked-passed : (w : Walk) (word : Text) → turn_fault s [] w word ≡ [] → ArePassed w.held.rows
        → ArePassed (walked s.rules [] w word).held.rows
    unfolding walked
    walked-passed w word e passed = go w.stopped e
      where
        met : Held × Step
        met = word_met s.rules [] w.is_trailing w.waiting w.position word w.held

        go : (o : Option (Text × List Text))
            → cond (is_some o) [] (or_else (word_fault s [] w.is_trailing w.waiting word w.held)
            (step_fault s w.position (word_met s.rules [] w.is_trailing w.waiting w.position word w.held).0
            (word_met s.rules [] w.is_trailing w.waiting w.position word w.held).1)) ≡ []
            → ArePassed (walked_from s.rules [] o w word).held.rows
        go (Some p) f = passed
        go None f =
            after_step-passed _ word w _ (or_else-right _ _ f)
            (word_met-passed w.is_trailing w.waiting w.position word w.held (or_else-left _ _ f) passed)

    walk-passed : (words : List Text) (w : Walk) → walk_fault s [] w words ≡ [] → ArePassed w.held.rows
        → ArePassed (fold (walked s.rules []) w words).held.rows
    unfolding walk_fault
    walk-passed [] w e passed = passed
    walk-passed (word ∷ rest) w e passed =
        walk-passed rest (walked s.rules [] w word) (or_else-right _ _ e) (walked-passed w word (or_else-left _ _ e) passed)

    -- the rows at the end, and what was checked of them
    pub level-passed : (words : List Text) → level_fault s [] nothing_held words false [] ≡ []
        → ArePassed (rows_after s.rules [] words) × (check_fault s (rows_after s.rules [] words) false ≡ [])
    level-passed words e =
        let walked_rows = walk-passed words (walk_from nothing_held) (or_else-left _ _ e) tt in
        let after = or_else-right _ _ e in
        let settled_rows = settled-passed (walk s.rules [] nothing_held words).held (or_else-left _ _ after) walked_rows in (
          defaults-passed valued s.rules beside _ settled_rows,
          or_else-right _ _ (or_else-right _ _ after),
        )

  -- the row of the option
  pub row-passed : (rows : List Row) (r : Row) → ArePassed rows → find (λ x. bytes_eq x.id q.id) rows ≡ Some r
      → (values_fault q r.values ≡ []) × (0 < length r.values) × (r.reading ≡ reading_by q)
  row-passed [] r passed e = absurd (cc)
  row-passed (x ∷ xs) r passed e = go (bytes_eq x.id q.id) refl e (λ f. row-passed xs r passed.1 f)
    where
      go : (b : Bool) → bytes_eq x.id q.id ≡ b → cond b (Some x) (find (λ y. bytes_eq y.id q.id) xs) ≡ Some r
          → (find (λ y. bytes_eq y.id q.id) xs ≡ Some r
          → (values_fault q r.values ≡ []) × (0 < length r.values) × (r.reading ≡ reading_by q))
          → (values_fault q r.values ≡ []) × (0 < length r.values) × (r.reading ≡ reading_by q)
      go true t f rest =
          let is : x ≡ r = ap (λ (o : Option Row). unwrap_or o r) f in
          subst (λ y. (values_fault q y.values ≡ []) × (0 < length y.values) × (y.reading ≡ reading_by q)) is (passed.0 t)
      go false t f rest = rest f
