-- where a search in two halves ends
use Rattle.std.proofs.Common.{◌≡◌, ℕ, ◌≤◌, List, length, get_or, not, nat_lt, Bool, true, false, refl, sym, ap, ◌∙◌, subst, arith, inl, inr, cond, Some, None, position}
use Rattle.std.specs.Option.{unwrap_or}
use Rattle.std.specs.List.{position_or_len, prefix_len}
use Rattle.std.specs.List.Sorted.{IsPartitionedBy, IsPartitionPoint}
use Rattle.std.proofs.lemmas.Bool.{both_ways, cases_lt, true_from_ne_false, ltb-false}
use Rattle.std.proofs.lemmas.List.Sums.{position_or_len_is, prefix_len_is}
use Rattle.casa_flight.proofs.PutBy.{PairsByRecursion, first_at_most}
use Rattle.casa_laws.proofs.InOrder.{pairs_from_recursion}

-- a test that no later one passes where an earlier one fails parts a list
pub parted : {X : Type 0} (p : X → Bool) (xs : List X) → PairsByRecursion (λ (x y : X). p x ≡ false → p y ≡ false) xs → IsPartitionedBy p xs
parted {X} p xs h i j d le lt passes =
    elim (cases_lt i j) [
      | inl before ↦ true_from_ne_false _ (λ fails. both_ways _ (pairs_from_recursion (λ (x y : X). p x ≡ false → p y ≡ false) xs h i j d before lt fails) passes)
      | inr at_most ↦ let same : j ≡ i = omega (arith, le, at_most) in subst (λ k. p (get_or xs k d) ≡ true) same passes
    ]

-- the number before which all pass and from which on none does
pub first_failing : {X : Type 0} (p : X → Bool) (d : X) (xs : List X) (i : ℕ) → i ≤ length xs
    → IsPartitionPoint (λ (y : X). p y ≡ true) (λ (y : X). p y ≡ false) xs i → i ≡ prefix_len p xs
first_failing p d xs i le point =
    sym (prefix_len_is p xs i d le (λ k lt. point.0 k d (omega arith) lt) (λ lt. point.1 i d (omega arith) lt))

-- the index of the first that passes, or the length
pub index_is : {X : Type 0} (p : X → Bool) (xs : List X) → unwrap_or (position p xs) (length xs) ≡ position_or_len p xs
index_is p xs =
    let n : ℕ = position_or_len p xs in
    let at_most : n ≤ length xs = first_at_most p xs in
    elim (nat_lt n (length xs)) as (λ b. nat_lt n (length xs) ≡ b → unwrap_or (cond b (Some n) None) (length xs) ≡ n) [
      | true ↦ λ e. refl
      | false ↦ λ e. let at_least : length xs ≤ n = ltb-false _ _ e in omega (arith, at_most, at_least)
    ] refl

pub first_behind : {X : Type 0} (p : X → Bool) (d : X) (xs : List X) (i : ℕ) → i ≤ length xs
    → IsPartitionPoint (λ (y : X). p y ≡ true) (λ (y : X). p y ≡ false) xs i
    → i ≡ unwrap_or (position (λ (y : X). not (p y)) xs) (length xs)
first_behind p d xs i le point =
    let at : position_or_len (λ y. not (p y)) xs ≡ i =
    position_or_len_is (λ y. not (p y)) xs i d le
    (λ k lt. ap not (point.0 k d (omega arith) lt)) (λ lt. ap not (point.1 i d (omega arith) lt)) in
    sym (index_is (λ y. not (p y)) xs ∙ at)
