-- due flights issued one by one, each at the time that it has before all of them
use Rattle.std.proofs.Common.{◌≡◌, ℕ, List, [], ◌∷◌, map, Bool, true, false, cond, refl, sym, ap, subst, ◌∙◌, ◌||◌, Option, None, Some, is_some, if◌then◌else◌}
use Rattle.std.specs.Option.{option_map, option_map_or, option_and_then}
use Rattle.std.specs.List.{AllByRecursion, list_any, cons_option}
use Rattle.std.specs.List.Sorted.{IsStrictlySortedBy}
use Rattle.std.specs.Map.{keys_of}
use Rattle.std.specs.declared.cmp.Ordering.TheVariants.{Less}
use Rattle.std.specs.Ordering.{is_eq}
use Rattle.std.proofs.Math.Bool.{or_assoc}
use Rattle.std.proofs.lemmas.Cmp.{nat_list_eq_equiv}
use Rattle.casa_flight.specs.declared.row.Row.{Row}
use Rattle.casa_flight.specs.declared.state.State.{State}
use Rattle.casa_filing.specs.Text.{Text, same_text, at_name}
use Rattle.casa_flight.specs.State.{row_of, with_row, is_governed_by}
use Rattle.casa_flight.specs.Listing.{Listing, cto_of}
use Rattle.casa_flight.specs.Entry.{is_to_issue, issued_in, issue_if, issue_due}
use Rattle.casa_flight.specs.Good.{AreInOrder}
use Rattle.casa_filing.proofs.Entries.{text_cmp, sorted-put, same_name, named, apart, at-put_other, at-map, keys-map, all-each, all-both}
use Rattle.casa_laws.proofs.Kept.{at_above, same_entries}
use Rattle.casa_footprint.specs.Finding.{due_keys}
use Rattle.casa_plan_spec.specs.Sight.{Sight, Written, nothing_written, row_in}
use Rattle.casa_plan_spec.specs.Issue.{issued_row, with_issued_row, with_issue, with_issues}
use Rattle.casa_plan_spec.proofs.Changes.{test_same}
use Rattle.casa_plan_spec.proofs.Board.{Shows, row_put}
use Rattle.casa_plan_spec.proofs.Naming.{other_text, or_none, named_put}
use Rattle.casa_plan_spec.proofs.Held.{IsHeld, issue_shown, issue_named}

-- a state once flights are issued as they would be in m
abbrev pub issue_row : State → State → Text → Option Row → State
issue_row m s key None = s
issue_row m s key (Some row) = with_row s key (issued_in m key row)

abbrev pub issue_each : State → State → List Text → State
issue_each m s [] = s
issue_each m s (key ∷ keys) = issue_each m (issue_row m s key (row_of m key)) keys

abbrev pub is_among : Text → List Text → Bool
is_among q keys = list_any (λ k. same_text k q) keys

-- whether a regulation governs one of these flights
abbrev pub governs_among : Sight → Text → List Text → Bool
governs_among v id keys = list_any (λ k. option_map_or (is_governed_by id) (row_in v k) false) keys

-- what is written of a flight that is issued, in a view that shows m
written_issued : (v : Sight) (w : Written) (m : State) (key : Text) (h : IsHeld m key) → Shows v nothing_written m → with_issue v w key ≡ with_issued_row v w key (issued_in m key h.row)
written_issued v w m key h shown =
    let seen : issued_row v key h.row ≡ issued_in m key h.row = λ i. record h.row { issued = option_and_then (λ (l : Listing). cto_of l key) (option_and_then (λ id. shown.lists id i) h.row.governing) } in
    ap (λ (y : Option Row). option_map_or (λ (row : Row). with_issued_row v w key (issued_row v key row)) y w) (shown.rows key ∙ h.found)
    ∙ ap (with_issued_row v w key) seen

pub rising_apart : (k q : Text) → text_cmp k q ≡ Less → same_text k q ≡ false
rising_apart k q h = other_text q k (sym (test_same q k) ∙ ap is_eq h)

-- one by one, the change shows the state in which each flight is issued, and it has their rows and the lists that govern them
pub record Issues (v : Sight) (w : Written) (m s : State) (keys : List Text) : Type 0 where
  pub shows : Shows v (with_issues v w keys) (issue_each m s keys)
  pub clock : (with_issues v w keys).clock ≡ w.clock
  pub catalogue : (with_issues v w keys).catalogue ≡ w.catalogue
  pub rows : (q : Text) → is_some (at_name (with_issues v w keys).rows q) ≡ (is_some (at_name w.rows q) || is_among q keys)
  pub lists : (q : Text) → is_some (at_name (with_issues v w keys).lists q) ≡ (is_some (at_name w.lists q) || governs_among v q keys)

pub issues : (v : Sight) (w : Written) (m s : State) (keys : List Text) → Shows v nothing_written m → AreInOrder m.rows → Shows v w s → AreInOrder s.rows → s.regs ≡ m.regs
    → IsStrictlySortedBy text_cmp keys → AllByRecursion (λ k. row_of s k ≡ row_of m k) keys → AllByRecursion (IsHeld m) keys → Issues v w m s keys
unfolding IsStrictlySortedBy
issues v w m s [] shown ordered shows sorted same rising untouched held = record { shows = shows; clock = refl; catalogue = refl; rows = λ q. or_none _; lists = λ q. or_none _ }
issues v w m s (key ∷ keys) shown ordered shows sorted same rising untouched held =
    let h : IsHeld m key = held.0 in
    let new : Row = issued_in m key h.row in
    let n : State = issue_row m s key (row_of m key) in
    let here : n ≡ with_row s key new = ap (issue_row m s key) h.found in
    let step : with_issue v w key ≡ with_issued_row v w key new = written_issued v w m key h shown in
    let then_shows : Shows v (with_issue v w key) n =
    subst (λ t. Shows v (with_issue v w key) t) (sym here) (subst (λ y. Shows v y (with_row s key new)) (sym step)
    (issue_shown v w m s key h h.row.issued new.issued (shown.lists h.id) ordered shows sorted same (untouched.0 ∙ h.found))) in
    let then_untouched : AllByRecursion (λ k. row_of n k ≡ row_of m k) keys =
    all-each (λ k. (text_cmp key k ≡ Less) × (row_of s k ≡ row_of m k)) (λ k. row_of n k ≡ row_of m k)
    (λ k f. ap (λ t. row_of t k) here ∙ at-put_other k key new s.rows (apart key k (rising_apart key k f.0)) ∙ f.1) keys
    (all-both (λ k. text_cmp key k ≡ Less) (λ k. row_of s k ≡ row_of m k) keys rising.0 untouched.1) in
    let rest : Issues v (with_issue v w key) m n keys =
    issues v (with_issue v w key) m n keys shown ordered then_shows (subst (λ (t : State). AreInOrder t.rows) (sym here) (sorted-put key new s.rows sorted)) (ap (λ (t : State). t.regs) here ∙ same) rising.1 then_untouched held.1 in
    record {
      shows = rest.shows;
      clock = rest.clock ∙ ap (λ (y : Written). y.clock) step;
      catalogue = rest.catalogue ∙ ap (λ (y : Written). y.catalogue) step;
      rows = λ q. rest.rows q ∙ ap (λ (y : Written). is_some (at_name y.rows q) || is_among q keys) step
          ∙ ap (λ b. b || is_among q keys) (named_put q key (Some new) w.rows) ∙ or_assoc (is_some (at_name w.rows q)) (same_text key q) (is_among q keys);
      lists = λ q. rest.lists q ∙ ap (λ (y : Written). is_some (at_name y.lists q) || governs_among v q keys) step
          ∙ ap (λ b. b || governs_among v q keys) (issue_named v w key new q) ∙ or_assoc (is_some (at_name w.lists q)) (is_governed_by q h.row) (governs_among v q keys)
          ∙ ap (λ (y : Option Row). is_some (at_name w.lists q) || (option_map_or (is_governed_by q) y false || governs_among v q keys)) (sym (shown.rows key ∙ h.found));
    }

-- the key of an entry that passes
abbrev pub key_if : Bool → Text → Option Text
key_if b key = if b then Some key else None

-- a key is among those of the due flights exactly if its flight is due
pub among_due : (at : ℕ) (q : Text) (rows : List (Text × Row)) → AreInOrder rows → is_among q (due_keys at rows) ≡ option_map_or (is_to_issue at) (at_name rows q) false
unfolding IsStrictlySortedBy
among_due at q [] sorted = refl
among_due at q (e ∷ es) sorted =
    elim (is_eq (text_cmp q e.0)) as (λ b. is_eq (text_cmp q e.0) ≡ b → is_among q (cons_option (key_if (is_to_issue at e.1) e.0) (due_keys at es)) ≡ option_map_or (is_to_issue at) (cond b (Some e.1) (at_name es q)) false) [
      | true ↦ λ t.
          let here : q ≡ e.0 = same_name q e.0 t in
          let rest : is_among q (due_keys at es) ≡ false =
          among_due at q es sorted.1 ∙ ap (λ (w : Option Row). option_map_or (is_to_issue at) w false) (subst (λ k. at_name es k ≡ None) (sym here) (at_above e.0 es sorted.0)) in
          first (is_to_issue at e.1) (subst (λ k. same_text k q ≡ true) here (nat_list_eq_equiv.refl q)) rest
      | false ↦ λ t. later (is_to_issue at e.1) (sym (test_same e.0 q) ∙ t) ∙ among_due at q es sorted.1
    ] refl
  where
    first : (b : Bool) → same_text e.0 q ≡ true → is_among q (due_keys at es) ≡ false → is_among q (cons_option (key_if b e.0) (due_keys at es)) ≡ b
    first true same rest = ap (λ t. t || is_among q (due_keys at es)) same
    first false same rest = rest

    later : (b : Bool) → same_text e.0 q ≡ false → is_among q (cons_option (key_if b e.0) (due_keys at es)) ≡ is_among q (due_keys at es)
    later true other = ap (λ t. t || is_among q (due_keys at es)) other
    later false other = refl

due_above : (at : ℕ) (k : Text) (rows : List (Text × Row)) → AllByRecursion (λ q. text_cmp k q ≡ Less) (keys_of rows) → AllByRecursion (λ q. text_cmp k q ≡ Less) (due_keys at rows)
due_above at k [] h = tt
due_above at k (e ∷ es) h = by (due_above at k es h.1) (is_to_issue at e.1)
  where
    by : AllByRecursion (λ q. text_cmp k q ≡ Less) (due_keys at es) → (b : Bool) → AllByRecursion (λ q. text_cmp k q ≡ Less) (cons_option (key_if b e.0) (due_keys at es))
    by rest true = (h.0, rest)
    by rest false = rest

pub due_rising : (at : ℕ) (rows : List (Text × Row)) → AreInOrder rows → IsStrictlySortedBy text_cmp (due_keys at rows)
unfolding IsStrictlySortedBy
due_rising at [] sorted = tt
due_rising at (e ∷ es) sorted =
    elim (is_to_issue at e.1) as (λ b. IsStrictlySortedBy text_cmp (cons_option (key_if b e.0) (due_keys at es))) [
      | true ↦ (due_above at e.0 es sorted.0, due_rising at es sorted.1)
      | false ↦ due_rising at es sorted.1
    ]

row-issue_each : (m s : State) (keys : List Text) (q : Text) → AllByRecursion (IsHeld m) keys → row_of (issue_each m s keys) q ≡ (if is_among q keys then option_map (issued_in m q) (row_of m q) else row_of s q)
row-issue_each m s [] q held = refl
row-issue_each m s (key ∷ keys) q held =
    row-issue_each m n keys q held.1 ∙ ap (λ (w : Option Row). if is_among q keys then option_map (issued_in m q) (row_of m q) else w) one
    ∙ both (same_text key q) (is_among q keys)
  where
    n : State
    n = issue_row m s key (row_of m key)

    one : row_of n q ≡ (if same_text key q then option_map (issued_in m q) (row_of m q) else row_of s q)
    one =
        ap (λ t. row_of t q) (ap (issue_row m s key) held.0.found) ∙ row_put s key (issued_in m key held.0.row) q
        ∙ (elim (same_text key q) as (λ b. same_text key q ≡ b → (if b then Some (issued_in m key held.0.row) else row_of s q) ≡ (if b then option_map (issued_in m q) (row_of m q) else row_of s q)) [
          | true ↦ λ t. subst (λ k. Some (issued_in m key held.0.row) ≡ option_map (issued_in m k) (row_of m k)) (named key q t) (sym (ap (option_map (issued_in m key)) held.0.found))
          | false ↦ λ t. refl
        ] refl)

    both : (a b : Bool) → (if b then option_map (issued_in m q) (row_of m q) else (if a then option_map (issued_in m q) (row_of m q) else row_of s q))
        ≡ (if a || b then option_map (issued_in m q) (row_of m q) else row_of s q)
    both true true = refl
    both true false = refl
    both false b = refl

sorted-issue_each : (m s : State) (keys : List Text) → AreInOrder s.rows → AreInOrder (issue_each m s keys).rows
sorted-issue_each m s [] sorted = sorted
sorted-issue_each m s (key ∷ keys) sorted = sorted-issue_each m (issue_row m s key (row_of m key)) keys (by (row_of m key))
  where
    by : (w : Option Row) → AreInOrder (issue_row m s key w).rows
    by None = sorted
    by (Some row) = sorted-put key (issued_in m key row) s.rows sorted

rest-issue_each : (m s : State) (keys : List Text) → issue_each m s keys ≡ record s { rows = (issue_each m s keys).rows }
rest-issue_each m s [] = refl
rest-issue_each m s (key ∷ keys) =
    rest-issue_each m (issue_row m s key (row_of m key)) keys ∙ (λ i. let t : State = record (by (row_of m key) i) { rows = (issue_each m (issue_row m s key (row_of m key)) keys).rows } in t)
  where
    by : (w : Option Row) → issue_row m s key w ≡ record s { rows = (issue_row m s key w).rows }
    by None = refl
    by (Some row) = refl

-- issued one by one, the due flights of a state are issued as they are at once
pub at_once : (m : State) → AreInOrder m.rows → AllByRecursion (IsHeld m) (due_keys m.clock m.rows) → issue_each m m (due_keys m.clock m.rows) ≡ issue_due m
at_once m sorted held =
    let keys : List Text = due_keys m.clock m.rows in
    let f : Text × Row → Row = λ e. issue_if (is_to_issue m.clock e.1) m e.0 e.1 in
    rest-issue_each m m keys
    ∙ ap (λ rows. let t : State = record m { rows = rows } in t)
    (same_entries (issue_each m m keys).rows (map (λ (e : Text × Row). (e.0, f e)) m.rows) (sorted-issue_each m m keys sorted) (subst (IsStrictlySortedBy text_cmp) (sym (keys-map f m.rows)) sorted)
    (λ q. row-issue_each m m keys q held
    ∙ ap (λ b. if b then option_map (issued_in m q) (row_of m q) else row_of m q) (among_due m.clock q m.rows sorted)
    ∙ each q (row_of m q)
    ∙ sym (at-map (λ k row. issue_if (is_to_issue m.clock row) m k row) q m.rows)))
  where
    one : (q : Text) (row : Row) (b : Bool) → (if b then Some (issued_in m q row) else Some row) ≡ Some (issue_if b m q row)
    one q row true = refl
    one q row false = refl

    each : (q : Text) (w : Option Row) → (if option_map_or (is_to_issue m.clock) w false then option_map (issued_in m q) w else w) ≡ option_map (λ (row : Row). issue_if (is_to_issue m.clock row) m q row) w
    each q None = refl
    each q (Some row) = one q row (is_to_issue m.clock row)
