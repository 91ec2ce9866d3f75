-- flights in their order, each once, are those that are subject to a regulation, in the order in which they are planned
use Rattle.std.proofs.Common.{◌≡◌, ◌↔◌, ℕ, ◌<◌, List, [], ◌∷◌, length, Bool, true, false, ◌||◌, ◌&&◌, ◌==◌, nat_lt, refl, sym, ap}
use Rattle.std.proofs.Common.{◌∙◌, Option, None, Some, arith, subst, get_or, zero, suc, ◌⊎◌, inl, inr}
use Rattle.std.specs.declared.cmp.Ordering.{Ordering}
use Rattle.std.specs.declared.cmp.Ordering.TheVariants.{Less, Equal, Greater}
use Rattle.std.specs.Ordering.{is_eq, is_lt, nat_cmp, ordering_then}
use Rattle.std.specs.Option.{option_map, option_map_or, option_and_then}
use Rattle.std.specs.List.{AllByRecursion, AllPairs, Contains, cons_option}
use Rattle.std.specs.List.Sorted.{IsStrictlySortedBy}
use Rattle.std.proofs.lemmas.Bool.{both_ways}
use Rattle.std.proofs.lemmas.List.Elements.{All-contains, All-from_recursion, recursion_from_All}
use Rattle.casa_flight.specs.declared.comp.Comp.{Comp}
use Rattle.casa_flight.specs.contracts.comp.CompOrd.TheImpl.{ghosts as sequence}
use Rattle.casa_filing.specs.declared.regulation.Regulation.{Regulation}
use Rattle.casa_flight.specs.declared.row.Row.{Row}
use Rattle.casa_filing.specs.Text.{Text, at_name}
use Rattle.casa_flight.specs.Good.{AreInOrder}
use Rattle.casa_filing.specs.Subject.{subject}
use Rattle.casa_flight.specs.Steps.{flights_over}
use Rattle.casa_flight.specs.Listing.{is_before}
use Rattle.casa_filing.proofs.Entries.{text_cmp, same_name}
use Rattle.casa_flight.proofs.PutBy.{PairsByRecursion}
use Rattle.casa_laws.proofs.Competitors.{before_one_way}
use Rattle.casa_laws.proofs.Planned.{over_who, over_order}
use Rattle.casa_item.specs.Gathered.{is_named}
use Rattle.casa_table.specs.Passing.{over_row}
use Rattle.casa_table.specs.Asking.{comp_over, comps_under}

or_true : (b : Bool) → (b || true) ≡ true
or_true true = refl
or_true false = refl

less_before : (x y : Comp) (a b : Ordering) → nat_cmp x.eto y.eto ≡ a → text_cmp x.key y.key ≡ b
    → ordering_then a b ≡ Less → is_before x y ≡ true
less_before x y Less b p q h =
    let less : nat_lt x.eto y.eto ≡ true = grind (arith, p) in
    ap (λ t. t || ((x.eto == y.eto) && is_lt (text_cmp x.key y.key))) less
less_before x y Equal Less p q h =
    let same : (x.eto == y.eto) ≡ true = grind (arith, p) in
    (λ i. nat_lt x.eto y.eto || (same i && is_lt (q i))) ∙ or_true (nat_lt x.eto y.eto)
less_before x y Equal Equal p q h = cc
less_before x y Equal Greater p q h = cc
less_before x y Greater b p q h = cc

abbrev IsBefore : Comp → Comp → Type 0
IsBefore a b = is_before a b ≡ true

all_before : (x : Comp) (ys : List Comp) → AllByRecursion (λ (y : Comp). sequence.cmp x y ≡ Less) ys
    → AllByRecursion (IsBefore x) ys
all_before x [] h = tt
all_before x (y ∷ ys) h =
    (less_before x y (nat_cmp x.eto y.eto) (text_cmp x.key y.key) refl refl h.0, all_before x ys h.1)

pairs_before : (cs : List Comp) → IsStrictlySortedBy sequence.cmp cs → PairsByRecursion IsBefore cs
unfolding IsStrictlySortedBy
pairs_before [] h = tt
pairs_before (c ∷ cs) h = (all_before c cs h.0, pairs_before cs h.1)

recursion_from_pairs : {X : Type 0} (R : X → X → Type 0) (xs : List X) → AllPairs R xs → PairsByRecursion R xs
recursion_from_pairs R [] h = tt
recursion_from_pairs R (x ∷ xs) h = (
  recursion_from_All (R x) xs (λ k d lt. h 0 (suc k) d (omega arith) (omega arith)),
  recursion_from_pairs R xs (λ i j d lt within. h (suc i) (suc j) d (omega arith) (omega arith)),
)

-- an element is the first, or behind it
first : {X : Type 0} (x : X) (xs : List X) → Contains (x ∷ xs) x
first x xs = (0, omega arith, refl)

behind : {X : Type 0} (x : X) (xs : List X) (c : X) → Contains xs c → Contains (x ∷ xs) c
behind x xs c h = (suc h.0, omega (arith, h.1), h.2)

either : {X : Type 0} (x : X) (xs : List X) (c : X) → Contains (x ∷ xs) c → (x ≡ c) ⊎ Contains xs c
either {X} x xs c h = by h.0 h.1 h.2
  where
    by : (k : ℕ) → k < length (x ∷ xs) → get_or (x ∷ xs) k c ≡ c → (x ≡ c) ⊎ Contains xs c
    by zero lt is = inl is
    by (suc k) lt is = inr (k, omega arith, is)

none : {X : Type 0} (c : X) → Contains [] c → ⊥
none c h = let lt : h.0 < 0 = h.1 in omega arith

later_before : (x : Comp) (xs : List Comp) (c : Comp) → AllByRecursion (IsBefore x) xs → Contains xs c → IsBefore x c
later_before x xs c h there = All-contains (IsBefore x) xs c (All-from_recursion (IsBefore x) xs h) there

-- lists in order with the same elements are the same
same_members : (xs ys : List Comp) → PairsByRecursion IsBefore xs → PairsByRecursion IsBefore ys
    → ((c : Comp) → Contains xs c → Contains ys c) → ((c : Comp) → Contains ys c → Contains xs c) → xs ≡ ys
same_members [] [] p q f g = refl
same_members [] (y ∷ ys) p q f g = absurd (none y (g y (first y ys)))
same_members (x ∷ xs) [] p q f g = absurd (none x (f x (first x xs)))
same_members (x ∷ xs) (y ∷ ys) p q f g =
    let head : x ≡ y = heads (either y ys x (f x (first x xs))) (either x xs y (g y (first y ys))) in
    let tails : xs ≡ ys =
    same_members xs ys p.1 q.1 (λ c h. rest y x xs ys c (sym head) p.0 h (either y ys c (f c (behind x xs c h))))
    (λ c h. rest x y ys xs c head q.0 h (either x xs c (g c (behind y ys c h)))) in
    λ i. head i ∷ tails i
  where
    heads : (y ≡ x) ⊎ Contains ys x → (x ≡ y) ⊎ Contains xs y → x ≡ y
    heads (inl e) w = sym e
    heads (inr h) (inl e) = e
    heads (inr h) (inr k) =
        absurd (both_ways _ (before_one_way x y (later_before x xs y p.0 k)) (later_before y ys x q.0 h))

    rest : (a b : Comp) (bs cs : List Comp) (c : Comp) → a ≡ b → AllByRecursion (IsBefore b) bs → Contains bs c
        → (a ≡ c) ⊎ Contains cs c → Contains cs c
    rest a b bs cs c same above h (inr k) = k
    rest a b bs cs c same above h (inl e) =
        let less : IsBefore c c = subst (λ (d : Comp). IsBefore d c) (sym same ∙ e) (later_before b bs c above h) in
        absurd (both_ways _ (before_one_way c c less) less)

abbrev comp_at : Text → ℕ → Comp
comp_at key eto = record { eto = eto; key = key }

-- who is subject to a regulation, of the flights with some keys
module _ (r : Regulation) (rows : List (Text × Row)) where
  abbrev IsOver : Comp → Type 0
  IsOver c = comp_over r c.key (at_name rows c.key) ≡ Some c

  its_key : (key : Text) (row : Option Row) (c : Comp) → comp_over r key row ≡ Some c → c.key ≡ key
  its_key key row c h = by (option_and_then (over_row r) row) h
    where
      by : (o : Option ℕ) → option_map (comp_at key) o ≡ Some c → c.key ≡ key
      by None h = cc
      by (Some eto) h = sym (ap (λ (w : Option Comp). option_map_or (λ (d : Comp). d.key) w key) h)

  each_over : (keys : List Text) → AllByRecursion IsOver (comps_under r rows keys)
  each_over [] = tt
  each_over (k ∷ keys) =
      elim (comp_over r k (at_name rows k)) as (λ (o : Option Comp). comp_over r k (at_name rows k) ≡ o
      → AllByRecursion IsOver (cons_option o (comps_under r rows keys))) [
        | None ↦ λ t. each_over keys
        | Some c ↦ λ t. (
          subst (λ (q : Text). comp_over r q (at_name rows q) ≡ Some c) (sym (its_key k (at_name rows k) c t)) t,
          each_over keys,
        )
      ] refl

  named_over : (keys : List Text) (c : Comp) → is_named keys c.key ≡ true → IsOver c → Contains (comps_under r rows keys) c
  named_over [] c named over = cc
  named_over (k ∷ keys) c named over =
      elim (is_eq (text_cmp c.key k)) as (λ b. is_eq (text_cmp c.key k) ≡ b → (b || is_named keys c.key) ≡ true
      → Contains (comps_under r rows (k ∷ keys)) c) [
        | true ↦ λ t h.
            let its : comp_over r k (at_name rows k) ≡ Some c =
            subst (λ (q : Text). comp_over r q (at_name rows q) ≡ Some c) (same_name c.key k t) over in
            subst (λ (o : Option Comp). Contains (cons_option o (comps_under r rows keys)) c) (sym its)
            (first c (comps_under r rows keys))
        | false ↦ λ t h. further (comp_over r k (at_name rows k)) (named_over keys c h over)
      ] refl named
    where
      further : (o : Option Comp) → Contains (comps_under r rows keys) c
          → Contains (cons_option o (comps_under r rows keys)) c
      further None h = h
      further (Some d) h = behind d (comps_under r rows keys) c h

  abbrev IsThere : Comp → Type 0
  IsThere c = (row : Row) × (at_name rows c.key ≡ Some row) × (true ≡ true) × (subject row.plan r ≡ Some c.eto)

  there_over : (c : Comp) → IsThere c → IsOver c
  there_over c h =
      ap (comp_over r c.key) h.1 ∙ ap (option_map (comp_at c.key)) h.3

  over_there : (c : Comp) → IsOver c → IsThere c
  over_there c h = by (at_name rows c.key) refl h
    where
      time : (o : Option ℕ) → option_map (comp_at c.key) o ≡ Some c → o ≡ Some c.eto
      time None h = cc
      time (Some eto) h = ap (option_map (λ (d : Comp). d.eto)) h

      by : (o : Option Row) → at_name rows c.key ≡ o → comp_over r c.key o ≡ Some c → IsThere c
      by None found h = cc
      by (Some row) found h = (row, found, refl, time (subject row.plan r) h)

  over_named : (c : Comp) → IsOver c → option_and_then (over_row r) (at_name rows c.key) ≡ Some c.eto
  over_named c h = let k = over_there c h in ap (option_and_then (over_row r)) k.1 ∙ k.3

  -- so these are all, where no key is left out of a flight that is subject to the regulation
  pub over_is : (keys : List Text) (cs : List Comp) → AreInOrder rows
      → ((q : Text) (y : ℕ) → option_and_then (over_row r) (at_name rows q) ≡ Some y → is_named keys q ≡ true)
      → IsStrictlySortedBy sequence.cmp cs
      → ((c : Comp) → Contains cs c ↔ Contains (comps_under r rows keys) c)
      → cs ≡ flights_over (λ (row : Row). true) r rows
  over_is keys cs sorted found ordered same =
      same_members cs (flights_over (λ (row : Row). true) r rows) (pairs_before cs ordered)
      (recursion_from_pairs IsBefore (flights_over (λ (row : Row). true) r rows) (over_order (λ (row : Row). true) r rows sorted))
      (λ c h. (over_who (λ (row : Row). true) r rows c sorted).1
      (over_there c (All-contains IsOver (comps_under r rows keys) c (All-from_recursion IsOver (comps_under r rows keys) (each_over keys)) ((same c).0 h))))
      (λ c h.
      let over : IsOver c = there_over c ((over_who (λ (row : Row). true) r rows c sorted).0 h) in
      (same c).1 (named_over keys c (found c.key c.eto (over_named c over)) over))
