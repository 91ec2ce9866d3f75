-- what clap has checked of the options with numbers, and of the words of `journal` and `compare`
use Rattle.std.proofs.Common.{◌≡◌, ◌∙◌, ◌<◌, ℕ, Bool, true, false, not, cond, refl, suc, sym, ap, subst, arith, codes, List, [], ◌∷◌, ◌++◌, take, drop, length, Option, Some, None, IfSome, is_some, option_map, true≢false, ◌||◌}
use Rattle.std.specs.Prelude.{find, nat_lt, option_and_then, pos, slice_get, unwrap_or}
use Rattle.std.specs.List.{list_all}
use Rattle.std.specs.Option.{option_map_or}
use Rattle.std.specs.Str.{bytes_eq}
use Rattle.clap.specs.Facts.{explicit_source, parser_of_value, unwrap_or_range}
use Rattle.clap.specs.Faults.{check_fault, entered_fault, fault_of, level_fault, values_fault}
use Rattle.clap.specs.Simple.{Shape, argument_words, built, entered, label_of, names_of, new_rule, new_shape, rows_at, subcommand_of}
use Rattle.clap.specs.Takes.{is_given}
use Rattle.clap.specs.ValueTests.{accepts}
use Rattle.clap.specs.Values.{read_as, reading_of, refused_kind}
use Rattle.clap.specs.Walk.{Row, Rule, Text, action_of, answers_to, nothing_held, reading_by, row_text, rows_after, stop_after}
use Rattle.clap.specs.Words.{IsSignedIn, without_minus}
use Rattle.clap.specs.declared.builder.action.ArgAction.TheVariants.{Set}
use Rattle.clap.specs.declared.builder.value_parser.ValueParser.TheVariants.{Signed}
use Rattle.clap.specs.declared.error.kind.ErrorKind.TheVariants.{MissingRequiredArgument}
use Rattle.clap.proofs.ValueTestLemmas.{accepts-Accepts}
use Rattle.casa_usage.specs.Usage.{whole_app}
use Rattle.casa_cli.specs.Tasks.{AreChecked, AreCompared, AreThere, IsNumber, IsThere}
use Rattle.casa_cli.proofs.Walks.{AreBeside, ArePassed, IsValued, beside_at, level-passed, or_else-left, or_else-right, row-passed}

-- the first value of an option with numbers
first_passes : (q : Rule) (v : Text) (vs : List Text) → values_fault q (v ∷ vs) ≡ [] → accepts q.ignore_case (parser_of_value q.parser) v ≡ true
first_passes q v vs e = go (accepts q.ignore_case (parser_of_value q.parser) v) (or_else-left _ _ e)
  where
    go : (b : Bool) → cond b [] (refused_kind (parser_of_value q.parser) ∷ []) ≡ [] → b ≡ true
    go true f = refl
    go false f = absurd (cc)

-- the number that stands in the rows of an option with numbers
number_in_rows : (q : Rule) (low high : ℕ) (rows : List Row) → q.parser ≡ Some (Signed (pos low) (pos high))
    → ArePassed q rows → IsNumber low high q.id rows
number_in_rows q low high rows parser passed = go (find (λ r. bytes_eq r.id q.id) rows) refl
  where
    valued : (values : List Text) → values_fault q values ≡ [] → 0 < length values
        → IfSome (option_map (read_as (reading_by q)) (slice_get values 0)) (λ text. (value : Text)
        × (text ≡ without_minus value) × IsSignedIn (pos low) (pos high) value)
    valued [] checked some = absurd (omega arith)
    valued (v ∷ vs) checked some =
        let taken = accepts-Accepts q.ignore_case (parser_of_value q.parser) v (first_passes q v vs checked) in
        let is : parser_of_value q.parser ≡ Signed (pos low) (pos high) = ap parser_of_value parser in (
          v,
          ap (λ p. read_as (reading_of p) v) is,
          rw is at taken,
        )

    go : (o : Option Row) → find (λ r. bytes_eq r.id q.id) rows ≡ o
        → IfSome (option_and_then row_text o) (λ text. (value : Text)
        × (text ≡ without_minus value) × IsSignedIn (pos low) (pos high) value)
    go None found = tt
    go (Some r) found =
        let known = row-passed q rows r passed found in
        subst (λ how. IfSome (option_map (read_as how) (slice_get r.values 0)) (λ text. (value : Text)
        × (text ≡ without_minus value) × IsSignedIn (pos low) (pos high) value)) (sym known.2) (valued r.values known.0 known.1)

-- ---- the places of options

-- the subcommand at a place
abbrev shape_at : ℕ → Shape
shape_at k = unwrap_or (slice_get (built whole_app).subs k) (new_shape [])

abbrev rule_at : Shape → ℕ → Rule
rule_at s k = unwrap_or (slice_get s.rules k) (new_rule [])

abbrev HaveOtherNames : Rule → List Rule → Type 0
HaveOtherNames q rules = list_all (λ a. not (bytes_eq a.id q.id)) rules ≡ true

-- an option of a subcommand, at its place, takes a value, and no other one has its name
record StandsAt (s : Shape) (k : ℕ) : Type 0 where
  splits : take k s.rules ++ rule_at s k ∷ drop (suc k) s.rules ≡ s.rules
  valued : IsValued (rule_at s k)
  before : HaveOtherNames (rule_at s k) (take k s.rules)
  behind : HaveOtherNames (rule_at s k) (drop (suc k) s.rules)

module _ (s : Shape) (k : ℕ) (stands : StandsAt s k) (words : List Text) (e : level_fault s [] nothing_held words false [] ≡ []) where
  -- its row was checked, and none that must be there is missing
  level_at : ArePassed (rule_at s k) (rows_after s.rules [] words) × (check_fault s (rows_after s.rules [] words) false ≡ [])
  level_at =
      level-passed (rule_at s k) stands.valued s
      (subst (AreBeside (rule_at s k)) stands.splits
      (beside_at (rule_at s k) (take k s.rules) (drop (suc k) s.rules) stands.before stands.behind)) words e

  -- a number is in its bounds
  number_at : (low high : ℕ) → (rule_at s k).parser ≡ Some (Signed (pos low) (pos high))
      → IsNumber low high (rule_at s k).id (rows_after s.rules [] words)
  number_at low high parser = number_in_rows (rule_at s k) low high (rows_after s.rules [] words) parser level_at.0

  -- a word that was given has a value
  there_at : is_given (rule_at s k).id (rows_after s.rules [] words) ≡ true → IsThere (rule_at s k).id (rows_after s.rules [] words)
  there_at = go (find (λ r. bytes_eq r.id (rule_at s k).id) (rows_after s.rules [] words)) refl
    where
      valued : (values : List Text) → 0 < length values → is_some (slice_get values 0) ≡ true
      valued [] some = absurd (omega arith)
      valued (v ∷ vs) some = refl

      go : (o : Option Row) → find (λ r. bytes_eq r.id (rule_at s k).id) (rows_after s.rules [] words) ≡ o
          → option_map_or (λ r. explicit_source r.source) o false ≡ true
          → is_some (option_and_then (λ r. slice_get r.values 0) o) ≡ true
      go None found given = absurd (true≢false (sym given))
      go (Some r) found given = valued r.values (row-passed (rule_at s k) (rows_after s.rules [] words) r level_at.0 found).1

is_valued : (a : Rule) → action_of a ≡ Set → nat_lt 0 (unwrap_or_range a.range).start_inclusive ≡ true → a.defaults ≡ [] → IsValued a
is_valued a set least none = record { sets = set; takes = least; defaults = none }

-- ---- the options with numbers

abbrev serve_shape : Shape
serve_shape = shape_at 9

served_at : (k low high : ℕ) → StandsAt serve_shape k → (rule_at serve_shape k).parser ≡ Some (Signed (pos low) (pos high))
    → (words : List Text) → level_fault serve_shape [] nothing_held words false [] ≡ []
    → IsNumber low high (rule_at serve_shape k).id (rows_after serve_shape.rules [] words)
served_at k low high stands parser words e = number_at serve_shape k stands words e low high parser

served : (words : List Text) → level_fault serve_shape [] nothing_held words false [] ≡ []
    → AreChecked (rows_after serve_shape.rules [] words)
served words e = record {
  port = served_at 0 1 65535 (record { splits = refl; valued = is_valued _ refl refl refl; before = refl; behind = refl }) refl words e;
  connections = served_at 1 0 4294967295 (record { splits = refl; valued = is_valued _ refl refl refl; before = refl; behind = refl }) refl words e;
  turns = served_at 3 0 4294967295 (record { splits = refl; valued = is_valued _ refl refl refl; before = refl; behind = refl }) refl words e;
  page = served_at 9 1 65535 (record { splits = refl; valued = is_valued _ refl refl refl; before = refl; behind = refl }) refl words e;
  seats = served_at 11 1 1000 (record { splits = refl; valued = is_valued _ refl refl refl; before = refl; behind = refl }) refl words e;
  idle = served_at 12 1 86400 (record { splits = refl; valued = is_valued _ refl refl refl; before = refl; behind = refl }) refl words e;
  every = served_at 15 1 3600 (record { splits = refl; valued = is_valued _ refl refl refl; before = refl; behind = refl }) refl words e;
}

-- ---- the words of `journal` and `compare`

-- both are given where none that must be is missing
both_given : (one other missing : Bool) → cond (not one || (not other || missing)) (MissingRequiredArgument ∷ []) [] ≡ []
    → (one ≡ true) × (other ≡ true)
both_given true true missing e = (refl, refl)
both_given true false missing e = absurd (cc)
both_given false other missing e = absurd (cc)

-- ---- where only one of the subcommands has a name, and its walk shows that its rows are so

module _ (label : Text) (own : Shape) (IsSo : List Row → Type 0)
    (shown : (words : List Text) → level_fault own [] nothing_held words false [] ≡ [] → IsSo (rows_after own.rules [] words)) where
  abbrev AreNamed : List Shape → Type 0
  AreNamed [] = Unit {0}
  AreNamed (s ∷ rest) = (bytes_eq s.name label ≡ true → s ≡ own) × AreNamed rest

  shape_named : (p : Shape → Bool) (subs : List Shape) (s : Shape) → AreNamed subs → find p subs ≡ Some s
      → bytes_eq s.name label ≡ true → s ≡ own
  shape_named p [] s named e same = absurd (cc)
  shape_named p (x ∷ xs) s named e same = go (p x) e (λ f. shape_named p xs s named.1 f same)
    where
      go : (b : Bool) → cond b (Some x) (find p xs) ≡ Some s → (find p xs ≡ Some s → s ≡ own) → s ≡ own
      go true f rest =
          let is : x ≡ s = ap (λ (o : Option Shape). unwrap_or o s) f in
          let its : bytes_eq x.name label ≡ true = subst (λ y. bytes_eq y.name label ≡ true) (sym is) same in
          sym is ∙ named.0 its
      go false f rest = rest f

  -- where clap finds no fault and the words name this subcommand, so are the rows of its options
  subcommand_shown : AreNamed (built whole_app).subs → (words : List Text) (name : Text) (rows : List Row) → fault_of whole_app words ≡ []
      → subcommand_of whole_app words ≡ Some (name, rows) → bytes_eq name label ≡ true → IsSo rows
  subcommand_shown are_named words name rows clean e same =
      go (stop_after (built whole_app).top.rules (names_of (built whole_app)) (argument_words whole_app words))
      (or_else-left _ _ (or_else-right _ _ clean)) e
    where
      at : (p : Text × List Text) (o : Option Shape) → find (λ s. answers_to p.0 (label_of s)) (built whole_app).subs ≡ o
          → option_map_or (λ s. level_fault s [] nothing_held p.1 false []) o [] ≡ []
          → option_map (λ s. rows_at s p.1) o ≡ Some (name, rows) → IsSo rows
      at p None is f g = absurd (cc)
      at p (Some s) is f g =
          let named : s.name ≡ name = ap (λ (o : Option (Text × List Row)). (unwrap_or o (name, rows)).0) g in
          let same_rows : rows_after s.rules [] p.1 ≡ rows = ap (λ (o : Option (Text × List Row)). (unwrap_or o (name, rows)).1) g in
          let its : s ≡ own = shape_named (λ (t : Shape). answers_to p.0 (label_of t)) (built whole_app).subs s are_named is (subst (λ (t : Text). bytes_eq t label ≡ true) (sym named) same) in
          subst IsSo same_rows
          (subst (λ t. level_fault t [] nothing_held p.1 false [] ≡ [] → IsSo (rows_after t.rules [] p.1)) (sym its) (shown p.1) f)

      go : (o : Option (Text × List Text)) → entered_fault (built whole_app) o ≡ [] → entered (built whole_app) o ≡ Some (name, rows)
          → IsSo rows
      go None f g = absurd (cc)
      go (Some p) f g = at p (find (λ s. answers_to p.0 (label_of s)) (built whole_app).subs) refl f g

other : {A : Type 0} → false ≡ true → A
other e = absurd (true≢false (sym e))

-- the numbers of `import`, `report`, `load` and `serve` are checked
pub import_checked : (words : List Text) (name : Text) (rows : List Row) → fault_of whole_app words ≡ []
    → subcommand_of whole_app words ≡ Some (name, rows) → bytes_eq name (codes "import") ≡ true
    → IsNumber 0 3600 (codes "taxi") rows
import_checked =
    subcommand_shown (codes "import") (shape_at 1) (IsNumber 0 3600 (codes "taxi"))
    (λ words e. number_at (shape_at 1) 4 (record { splits = refl; valued = is_valued _ refl refl refl; before = refl; behind = refl }) words e 0 3600 refl)
    (other, (λ e. refl, (other, (other, (other, (other, (other, (other, (other, (other, (other, (other, tt))))))))))))

pub report_checked : (words : List Text) (name : Text) (rows : List Row) → fault_of whole_app words ≡ []
    → subcommand_of whole_app words ≡ Some (name, rows) → bytes_eq name (codes "report") ≡ true
    → IsNumber 1 1000000 (codes "top") rows
report_checked =
    subcommand_shown (codes "report") (shape_at 2) (IsNumber 1 1000000 (codes "top"))
    (λ words e. number_at (shape_at 2) 4 (record { splits = refl; valued = is_valued _ refl refl refl; before = refl; behind = refl }) words e 1 1000000 refl)
    (other, (other, (λ e. refl, (other, (other, (other, (other, (other, (other, (other, (other, (other, tt))))))))))))

pub load_checked : (words : List Text) (name : Text) (rows : List Row) → fault_of whole_app words ≡ []
    → subcommand_of whole_app words ≡ Some (name, rows) → bytes_eq name (codes "load") ≡ true
    → IsNumber 1 1440 (codes "step") rows
load_checked =
    subcommand_shown (codes "load") (shape_at 3) (IsNumber 1 1440 (codes "step"))
    (λ words e. number_at (shape_at 3) 2 (record { splits = refl; valued = is_valued _ refl refl refl; before = refl; behind = refl }) words e 1 1440 refl)
    (other, (other, (other, (λ e. refl, (other, (other, (other, (other, (other, (other, (other, (other, tt))))))))))))

pub serve_checked : (words : List Text) (name : Text) (rows : List Row) → fault_of whole_app words ≡ []
    → subcommand_of whole_app words ≡ Some (name, rows) → bytes_eq name (codes "serve") ≡ true → AreChecked rows
serve_checked =
    subcommand_shown (codes "serve") serve_shape AreChecked served
    (other, (other, (other, (other, (other, (other, (other, (other, (other, (λ e. refl, (other, (other, tt))))))))))))

-- the words of `compare` and of `journal` are there
pub compare_checked : (words : List Text) (name : Text) (rows : List Row) → fault_of whole_app words ≡ []
    → subcommand_of whole_app words ≡ Some (name, rows) → bytes_eq name (codes "compare") ≡ true → AreCompared rows
compare_checked =
    subcommand_shown (codes "compare") (shape_at 7) AreCompared there
    (other, (other, (other, (other, (other, (other, (other, (λ e. refl, (other, (other, (other, (other, tt))))))))))))
  where
    base : StandsAt (shape_at 7) 0
    base = record { splits = refl; valued = is_valued _ refl refl refl; before = refl; behind = refl }

    variant : StandsAt (shape_at 7) 1
    variant = record { splits = refl; valued = is_valued _ refl refl refl; before = refl; behind = refl }

    there : (words : List Text) → level_fault (shape_at 7) [] nothing_held words false [] ≡ []
        → AreCompared (rows_after (shape_at 7).rules [] words)
    there words e =
        let given = both_given (is_given (codes "base") (rows_after (shape_at 7).rules [] words))
        (is_given (codes "variant") (rows_after (shape_at 7).rules [] words))
        (not (is_given (codes "day") (rows_after (shape_at 7).rules [] words)) || false) (level_at (shape_at 7) 0 base words e).1 in
        (there_at (shape_at 7) 0 base words e given.0, there_at (shape_at 7) 1 variant words e given.1)

pub journal_checked : (words : List Text) (name : Text) (rows : List Row) → fault_of whole_app words ≡ []
    → subcommand_of whole_app words ≡ Some (name, rows) → bytes_eq name (codes "journal") ≡ true → AreThere rows
journal_checked =
    subcommand_shown (codes "journal") (shape_at 10) AreThere there
    (other, (other, (other, (other, (other, (other, (other, (other, (other, (other, (λ e. refl, (other, tt))))))))))))
  where
    action : StandsAt (shape_at 10) 0
    action = record { splits = refl; valued = is_valued _ refl refl refl; before = refl; behind = refl }

    file : StandsAt (shape_at 10) 1
    file = record { splits = refl; valued = is_valued _ refl refl refl; before = refl; behind = refl }

    there : (words : List Text) → level_fault (shape_at 10) [] nothing_held words false [] ≡ []
        → AreThere (rows_after (shape_at 10).rules [] words)
    there words e =
        let given = both_given (is_given (codes "action") (rows_after (shape_at 10).rules [] words))
        (is_given (codes "file") (rows_after (shape_at 10).rules [] words)) false (level_at (shape_at 10) 0 action words e).1 in
        (there_at (shape_at 10) 0 action words e given.0, there_at (shape_at 10) 1 file words e given.1)
