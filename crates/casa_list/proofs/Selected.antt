-- of some, the one before which so many come is the one of that number once they are in order
use Rattle.std.proofs.Common.{◌≡◌, ℕ, ◌+◌, ◌==◌, List, [], ◌∷◌, Bool, true, false, cond, refl, sym, ◌∙◌, ap, subst, zero, suc, arith, Option, None, Some, count_by}
use Rattle.std.specs.List.{AllByRecursion, Contains, filter_map, find, slice_get}
use Rattle.std.specs.List.Sorted.{IsPermutation}
use Rattle.std.specs.Cmp.{IsStrictWeakOrder}
use Rattle.std.proofs.lemmas.Bool.{both_ways, false_from_ne_true, eqb-true, eq-eqb}
use Rattle.std.proofs.lemmas.List.Elements.{All-from_recursion, recursion_from_All}
use Rattle.std.proofs.lemmas.List.Sums.{sum_by-cons}
use Rattle.std.proofs.lemmas.List.Sorted.{All-permutation, Contains-permutation, sum_by-IsPermutation}
use Rattle.std.proofs.lemmas.Option.{slice_get-get_or}
use Rattle.casa_flight.specs.declared.comp.Comp.{Comp}
use Rattle.casa_flight.specs.declared.row.Stance.{Stance}
use Rattle.casa_filing.specs.Text.{Text}
use Rattle.casa_flight.specs.Good.{AreInOrder}
use Rattle.casa_flight.specs.Listing.{sorted_by}
use Rattle.casa_filing.proofs.Entries.{all-each}
use Rattle.casa_flight.proofs.PutBy.{PairsByRecursion, each_itself}
use Rattle.casa_laws.proofs.InOrder.{turn-planned}
use Rattle.casa_slots.specs.declared.standing.Standing.{Standing}
use Rattle.casa_list.specs.Standings.{is_flight_before, forced_flight}
use Rattle.casa_list.proofs.AtOnce.{flights_order}
use Rattle.casa_list.proofs.Once.{forced_of, forced_named}
use Rattle.casa_list.proofs.Ordered.{in_order_moved}

-- how many of these come before one
abbrev pub rank : {X : Type 0} → (X → X → Bool) → List X → X → ℕ
rank before xs x = count_by (λ y. before y x) xs

abbrev InTurn : {X : Type 0} → (X → X → Bool) → List X → Type 0
InTurn {X} before xs = PairsByRecursion (λ (x y : X). before x y ≡ true) xs

rank-cons : {X : Type 0} (before : X → X → Bool) (y : X) (xs : List X) (x : X) → rank before (y ∷ xs) x ≡ cond (before y x) 1 0 + rank before xs x
rank-cons before y xs x = sum_by-cons (λ z. cond (before z x) 1 0) y xs

none_before : {X : Type 0} (before : X → X → Bool) → IsStrictWeakOrder before → (x : X) (xs : List X) → AllByRecursion (λ (y : X). before x y ≡ true) xs → rank before xs x ≡ 0
none_before before order x [] h = refl
none_before before order x (y ∷ xs) h = rank-cons before y xs x ∙ (λ i. cond (order.one_way x y h.0 i) 1 0 + none_before before order x xs h.1 i)

each_at : {X : Type 0} (P : X → Type 0) (xs : List X) (n : ℕ) (x : X) → AllByRecursion P xs → slice_get xs n ≡ Some x → P x
each_at P [] n x h at = cc
each_at P (y ∷ xs) zero x h at = let same : y ≡ x = cc in subst P same h.0
each_at P (y ∷ xs) (suc n) x h at = each_at P xs n x h.1 at

-- of those that are in order, as many come before one as stand in front of it
rank_at : {X : Type 0} (before : X → X → Bool) → IsStrictWeakOrder before → (xs : List X) (n : ℕ) (x : X) → InTurn before xs → slice_get xs n ≡ Some x → rank before xs x ≡ n
rank_at before order [] n x h at = cc
rank_at {X} before order (y ∷ xs) zero x h at =
    let same : y ≡ x = cc in
    let own : before y y ≡ false = false_from_ne_true _ (λ t. both_ways _ (order.one_way y y t) t) in
    subst (λ (z : X). rank before (y ∷ xs) z ≡ 0) same (rank-cons before y xs y ∙ (λ i. cond (own i) 1 0 + none_before before order y xs h.0 i))
rank_at {X} before order (y ∷ xs) (suc n) x h at =
    let first : before y x ≡ true = each_at (λ (z : X). before y z ≡ true) xs n x h.0 at in
    let more : 1 + n ≡ suc n = omega arith in
    rank-cons before y xs x ∙ (λ i. cond (first i) 1 0 + rank_at before order xs n x h.1 at i) ∙ more

-- what a search finds, and what it has passed
found : {X : Type 0} (p : X → Bool) (P : X → Type 0) (xs : List X) (x : X) → AllByRecursion P xs → find p xs ≡ Some x → (p x ≡ true) × P x
found p P [] x h is = cc
found {X} p P (y ∷ xs) x h is =
    elim (p y) as (λ b. p y ≡ b → cond b (Some y) (find p xs) ≡ Some x → (p x ≡ true) × P x) [
      | true ↦ λ t same. let e : y ≡ x = cc in (subst (λ (z : X). p z ≡ true) e t, subst P e h.0)
      | false ↦ λ t rest. found p P xs x h.1 rest
    ] refl is

passed : {X : Type 0} (p : X → Bool) (xs : List X) → find p xs ≡ None → AllByRecursion (λ (x : X). p x ≡ false) xs
passed p [] is = tt
passed {X} p (y ∷ xs) is =
    elim (p y) as (λ b. p y ≡ b → cond b (Some y) (find p xs) ≡ None → AllByRecursion (λ (x : X). p x ≡ false) (y ∷ xs)) [
      | true ↦ λ t none. cc
      | false ↦ λ t none. (t, passed p xs none)
    ] refl is

selected : {X : Type 0} (before : X → X → Bool) → IsStrictWeakOrder before → (n : ℕ) (gs fs : List X) → IsPermutation gs fs → InTurn before fs → find (λ (x : X). rank before gs x == n) gs ≡ slice_get fs n
selected {X} before order n gs fs moved turn =
    let p : X → Bool = λ x. rank before gs x == n in
    let At : X → Type 0 = λ x. slice_get fs (rank before gs x) ≡ Some x in
    let ranked : (k : ℕ) (x : X) → slice_get fs k ≡ Some x → rank before gs x ≡ k =
    λ k x at. sym (sum_by-IsPermutation (λ (y : X). cond (before y x) 1 0) gs fs moved) ∙ rank_at before order fs k x turn at in
    let own : (x : X) → Contains gs x → At x =
    λ x there.
    let c = Contains-permutation gs fs x moved there in
    let at : slice_get fs c.0 ≡ Some x = slice_get-get_or fs c.0 x c.1 ∙ ap Some c.2 in
    ap (slice_get fs) (ranked c.0 x at) ∙ at in
    elim (find p gs) as (λ (o : Option X). find p gs ≡ o → o ≡ slice_get fs n) [
      | Some x ↦ λ is.
          let h = found p At gs x (all-each (Contains gs) At own gs (each_itself gs)) is in
          sym (ap (slice_get fs) (sym (eqb-true _ _ h.0)) ∙ h.1)
      | None ↦ λ is.
          elim (slice_get fs n) as (λ (o : Option X). slice_get fs n ≡ o → None ≡ o) [
            | None ↦ λ t. refl
            | Some x ↦ λ t.
                let Passed : X → Type 0 = λ y. p y ≡ false in
                let none : AllByRecursion Passed fs = recursion_from_All Passed fs (All-permutation Passed gs fs moved (All-from_recursion Passed gs (passed p gs is))) in
                absurd (both_ways _ (each_at Passed fs n x none t) (eq-eqb _ _ (ranked n x t)))
          ] refl
    ] refl

-- so it is with the forced flights of a list
pub forced_selected : (es : List (Text × Stance)) (n : ℕ) → AreInOrder es →
    let gs = filter_map (λ (e : Text × Stance). forced_flight e.0 e.1) es in
    find (λ (f : Comp × Standing). rank is_flight_before gs f == n) gs ≡ slice_get (sorted_by is_flight_before gs) n
forced_selected es n sorted =
    selected is_flight_before flights_order n _ _ (in_order_moved is_flight_before _) (turn-planned (λ (f : Comp × Standing). f.0) forced_of forced_named es sorted)
