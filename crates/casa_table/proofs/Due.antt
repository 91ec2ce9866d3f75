-- the flights to issue are all found among the departures that are due
use Rattle.std.proofs.Common.{◌≡◌, ℕ, List, [], ◌∷◌, map, ◌≤◌, Bool, cond, true, false, ◌||◌, ◌&&◌, ◌==◌, not, refl}
use Rattle.std.proofs.Common.{sym, ap, ◌∙◌, Option, None, Some, is_some, subst, arith, if◌then◌else◌}
use Rattle.std.specs.declared.cmp.Ordering.TheVariants.{Less, Equal, Greater}
use Rattle.std.specs.Ordering.{is_eq, nat_cmp, ordering_then}
use Rattle.std.specs.Option.{option_and_then, option_map, option_map_or}
use Rattle.std.specs.BTreeMap.{is_at}
use Rattle.std.specs.List.{AllByRecursion, cons_option, filter}
use Rattle.std.specs.List.Sorted.{IsStrictlySortedBy}
use Rattle.std.specs.Map.{keys_of}
use Rattle.casa_time.specs.Due as due
use Rattle.casa_flight.specs.declared.row.Row.{Row}
use Rattle.casa_filing.specs.Text.{Text, same_text}
use Rattle.casa_flight.specs.Listing.{filter_map_values}
use Rattle.casa_flight.specs.Entry.{is_to_issue}
use Rattle.casa_filing.proofs.Entries.{text_cmp, same_name, itself, named}
use Rattle.casa_table.specs.declared.flights.Departure.{Departure}
use Rattle.casa_table.specs.contracts.flights.DepartureOrd.TheImpl.{ghosts as departures}
use Rattle.casa_table.specs.Laid.{where_put}
use Rattle.casa_footprint.specs.Finding.{due_keys}
use Rattle.casa_table.specs.Waiting.{due_row, is_waiting, is_waiting_at, has_departure, departure, HaveWaiting}
use Rattle.casa_table.specs.Waiting.{due_names}
use Rattle.casa_item.specs.Gathered.{is_named}
use Rattle.casa_table.proofs.Exact.{IsExact}

-- departures that compare Equal are the same
pub exact : IsExact departures.cmp
exact d e h =
    elim (nat_cmp d.eobt e.eobt) as (λ r. nat_cmp d.eobt e.eobt ≡ r
    → is_eq (ordering_then r (text_cmp d.key e.key)) ≡ true → d ≡ e) [
      | Less ↦ λ _ t. cc
      | Equal ↦ λ same t.
          let times : d.eobt ≡ e.eobt = same_number d.eobt e.eobt same in
          let keys : d.key ≡ e.key = same_name d.key e.key t in
          λ i. record { eobt = times i; key = keys i }
      | Greater ↦ λ _ t. cc
    ] refl h
  where
    same_number : (a b : ℕ) → nat_cmp a b ≡ Equal → a ≡ b
    same_number a b p = grind (arith, p)

-- the keys of the departures up to the first that is not due
abbrev pub first_due : ℕ → List Departure → List Text
first_due at [] = []
first_due at (d ∷ ds) = if due.is_due at d.eobt then d.key ∷ first_due at ds else []

-- a later departure has no earlier off-block time, so none that follows is due
no_earlier : (d e : Departure) → departures.cmp d e ≡ Less → d.eobt ≤ e.eobt
no_earlier d e h =
    elim (nat_cmp d.eobt e.eobt) as (λ r. nat_cmp d.eobt e.eobt ≡ r → ordering_then r (text_cmp d.key e.key) ≡ Less
    → d.eobt ≤ e.eobt) [
      | Less ↦ λ p _. grind (arith, p)
      | Equal ↦ λ p _. grind (arith, p)
      | Greater ↦ λ _ t. cc
    ] refl h

nor_due : (at : ℕ) (d e : Departure) → departures.cmp d e ≡ Less → due.is_due at d.eobt ≡ false
    → due.is_due at e.eobt ≡ false
nor_due at d e less h =
    let late : d.eobt ≤ e.eobt = no_earlier d e less in
    grind (arith, late, h)

none_due : (at : ℕ) (d : Departure) (ds : List Departure) → due.is_due at d.eobt ≡ false
    → AllByRecursion (λ (e : Departure). departures.cmp d e ≡ Less) ds → [] ≡ due_names at ds
none_due at d [] h above = refl
none_due at d (e ∷ ds) h above =
    none_due at d ds h above.1
    ∙ ap (λ b. map (λ (x : Departure). x.key) (cond b (e ∷ filter (λ (x : Departure). due.is_due at x.eobt) ds)
    (filter (λ (x : Departure). due.is_due at x.eobt) ds))) (sym (nor_due at d e above.0 h))

-- departures in their order, each once
abbrev pub AreSorted : List Departure → Type 0
AreSorted ds = IsStrictlySortedBy departures.cmp ds

-- departures in their order are due up to the first that is not
pub first_are_all : (at : ℕ) (ds : List Departure) → AreSorted ds → first_due at ds ≡ due_names at ds
unfolding IsStrictlySortedBy
first_are_all at [] sorted = refl
first_are_all at (d ∷ ds) sorted =
    elim (due.is_due at d.eobt) as (λ b. due.is_due at d.eobt ≡ b → (if b then d.key ∷ first_due at ds else [])
    ≡ map (λ (x : Departure). x.key) (cond b (d ∷ filter (λ (x : Departure). due.is_due at x.eobt) ds)
    (filter (λ (x : Departure). due.is_due at x.eobt) ds))) [
      | true ↦ λ _. ap (λ ks. d.key ∷ ks) (first_are_all at ds sorted.1)
      | false ↦ λ t. none_due at d ds t sorted.0
    ] refl

or_true : (b : Bool) → (b || true) ≡ true
or_true true = refl
or_true false = refl

-- a departure that is due is named
due_named : (at : ℕ) (e : Departure) (ds : List Departure) → has_departure ds e ≡ true → due.is_due at e.eobt ≡ true
    → is_named (due_names at ds) e.key ≡ true
due_named at e [] h is_due = cc
due_named at e (d ∷ ds) h is_due =
    elim (is_eq (departures.cmp e d)) as (λ b. is_eq (departures.cmp e d) ≡ b → (b || has_departure ds e) ≡ true
    → is_named (due_names at (d ∷ ds)) e.key ≡ true) [
      | true ↦ λ t _.
          let same : e ≡ d = exact e d t in
          let first : due.is_due at d.eobt ≡ true =
          subst (λ (x : Departure). due.is_due at x.eobt ≡ true) same is_due in
          ap (λ b. is_named (names b) e.key) first
          ∙ ap (λ b. b || is_named (due_names at ds) e.key)
          (subst (λ (x : Departure). is_eq (text_cmp e.key x.key) ≡ true) same (itself e.key))
      | false ↦ λ _ g. later (due.is_due at d.eobt) (due_named at e ds g is_due)
    ] refl h
  where
    names : Bool → List Text
    names b = map (λ (x : Departure). x.key) (cond b (d ∷ filter (λ (x : Departure). due.is_due at x.eobt) ds)
        (filter (λ (x : Departure). due.is_due at x.eobt) ds))

    later : (b : Bool) → is_named (due_names at ds) e.key ≡ true → is_named (names b) e.key ≡ true
    later true k = ap (λ b. is_eq (text_cmp e.key d.key) || b) k ∙ or_true (is_eq (text_cmp e.key d.key))
    later false k = k

-- a flight that is to be issued waits and is due
record IsDueRow (at : ℕ) (row : Row) : Type 0 where
  waits : is_waiting row ≡ true
  is_due : due.is_due at row.plan.eobt ≡ true

due_row_is : (at : ℕ) (row : Row) (t : ℕ) → due_row at row ≡ Some t → IsDueRow at row
due_row_is at row t h =
    by (is_some row.governing) (is_some row.issued) (due.is_due at row.plan.eobt) refl refl refl
    (subst (λ (b : Bool). (if b then Some row.plan.eobt else None) ≡ Some t) refl h)
  where
    by : (a b c : Bool) → is_some row.governing ≡ a → is_some row.issued ≡ b → due.is_due at row.plan.eobt ≡ c
        → (if (a && (not b && c)) then Some row.plan.eobt else None) ≡ Some t → IsDueRow at row
    by true true c p q r e = cc
    by false b c p q r e = cc
    by true false false p q r e = cc
    by true false true p q r e = record { waits = rw (p, q) refl; is_due = r }

pub row_due : (at : ℕ) (row_at : Text → Option Row) (ds : List Departure) → HaveWaiting row_at ds
    → (q : Text) (t : ℕ) → option_and_then (due_row at) (row_at q) ≡ Some t → is_named (due_names at ds) q ≡ true
row_due at row_at ds have q t h = by (row_at q) refl h
  where
    by : (o : Option Row) → row_at q ≡ o → option_and_then (due_row at) o ≡ Some t → is_named (due_names at ds) q ≡ true
    by None found h = cc
    by (Some row) found h =
        let is_row : IsDueRow at row = due_row_is at row t h in
        due_named at (departure q row) ds (have q row found is_row.waits) is_row.is_due

pub keys_due : (at : ℕ) (rows : List (Text × Row)) → keys_of (filter_map_values (due_row at) rows) ≡ due_keys at rows
keys_due at [] = refl
keys_due at (e ∷ es) =
    elim (is_to_issue at e.1) as (λ b.
    keys_of (cons_option (option_map (λ (t : ℕ). (e.0, t)) (if b then Some e.1.plan.eobt else None))
    (filter_map_values (due_row at) es)) ≡ cons_option (if b then Some e.0 else None) (due_keys at es)) [
      | true ↦ ap (λ ks. e.0 ∷ ks) (keys_due at es)
      | false ↦ keys_due at es
    ]

-- a departure that the flight does not need now may go
pub idle_goes : (key : Text) (eobt : ℕ) (present : Option Row) (at : Text → Option Row) (ds es : List Departure)
    → at key ≡ present
    → option_map_or (is_waiting_at eobt) present false ≡ false
    → ((e : Departure) → is_at (departures.cmp (record { eobt = eobt; key = key })) e ≡ false
    → has_departure es e ≡ has_departure ds e)
    → HaveWaiting at ds → HaveWaiting at es
idle_goes key eobt present at ds es there idle others have q row found waits =
    elim (is_eq (departures.cmp d (departure q row))) as (λ b. is_eq (departures.cmp d (departure q row)) ≡ b
    → has_departure es (departure q row) ≡ true) [
      | true ↦ λ t.
          let same : d ≡ departure q row = exact d (departure q row) t in
          let row_is : present ≡ Some row = sym there ∙ ap (λ (x : Departure). at x.key) same ∙ found in
          let needed : option_map_or (is_waiting_at eobt) present false ≡ true =
          (λ i. option_map_or (is_waiting_at (same i).eobt) (row_is i) false)
          ∙ ap (λ b. b && (row.plan.eobt == row.plan.eobt)) waits ∙ same_itself row.plan.eobt in
          let no : true ≡ false = sym needed ∙ idle in cc
      | false ↦ λ t. others (departure q row) t ∙ have q row found waits
    ] refl
  where
    d : Departure
    d = record { eobt = eobt; key = key }

    same_itself : (n : ℕ) → (n == n) ≡ true
    same_itself n = grind (arith)

-- with a flight's departure among more departures, these serve for it too
pub added_departure : (key : Text) (row : Row) (at : Text → Option Row) (ds es : List Departure)
    → ((d : Departure) → has_departure ds d ≡ true → has_departure es d ≡ true)
    → (is_waiting row ≡ true → has_departure es (departure key row) ≡ true)
    → HaveWaiting at ds → HaveWaiting (where_put at key (Some row)) es
added_departure key row at ds es more new have q x found waits = by (same_text key q) refl found
  where
    by : (b : Bool) → same_text key q ≡ b → (if b then Some row else at q) ≡ Some x
        → has_departure es (departure q x) ≡ true
    by false t f = more (departure q x) (have q x f waits)
    by true t f =
        let value : row ≡ x = cc in
        subst (λ (k : Text). has_departure es (departure k x) ≡ true) (named key q t)
        (subst (λ (r : Row). has_departure es (departure key r) ≡ true) value
        (new (subst (λ (r : Row). is_waiting r ≡ true) (sym value) waits)))

pub more_departures : (at : Text → Option Row) (ds es : List Departure)
    → ((d : Departure) → has_departure ds d ≡ true → has_departure es d ≡ true) → HaveWaiting at ds → HaveWaiting at es
more_departures at ds es more have q row found waits = more (departure q row) (have q row found waits)
