-- elements sorted by their names: a search among them, and entries of a map that were in another order
use Rattle.std.proofs.Common.{◌≡◌, ℕ, zero, suc, arith, get_or, ◌+◌, ◌≤◌, ◌<◌, List, [], ◌∷◌, length, map, Bool, true, false}
use Rattle.std.proofs.Common.{refl, sym, ap, subst, ◌∙◌, cond, is_some, Option, None, Some, unwrap_or, Result, Ok, Err, ◌⊎◌, inl, inr}
use Rattle.std.specs.declared.cmp.Ordering.{Ordering}
use Rattle.std.specs.declared.cmp.Ordering.TheVariants.{Less, Equal, Greater}
use Rattle.std.specs.Ordering.{is_eq, is_lt, ordering_index, ordering_reverse}
use Rattle.std.specs.Cmp.{IsStrictWeakOrder}
use Rattle.std.specs.Result.{is_ok}
use Rattle.std.specs.List.{Contains}
use Rattle.std.specs.List.Sorted.{IsBinarySearchResult, IsNonDecreasingBy, IsPartitionPoint, IsPermutation, IsSearchInRange}
use Rattle.std.specs.List.Sorted.{IsSortedBy, IsStrictlySortedBy}
use Rattle.std.proofs.lemmas.Bool.{both_ways, cases_lt}
use Rattle.std.proofs.lemmas.Cmp.{nat_list_cmp_total}
use Rattle.std.proofs.lemmas.List.Elements.{All-from_recursion}
use Rattle.std.proofs.lemmas.List.Sorted.{ranks_by, searchable_from_sorted, Contains-permutation, IsPermutation-refl}
use Rattle.casa_filing.specs.Text.{Text, at_name}
use Rattle.casa_filing.proofs.Entries.{text_cmp, same_name, other_way, each_found}
use Rattle.casa_flight.specs.Good.{AreInOrder}
use Rattle.casa_flight.specs.Listing.{sorted_by}
use Rattle.casa_flight.proofs.Sorting.{sorted_of_same}
use Rattle.casa_item.specs.Row.{IsRow}

pub flipped : (k q : Text) (o : Ordering) → text_cmp k q ≡ o → text_cmp q k ≡ ordering_reverse o
flipped k q o h = nat_list_cmp_total.antisymm q k ∙ ap ordering_reverse h

module _ {X : Type 0} (name : X → Text) where
  abbrev pub is_named_before : X → X → Bool
  is_named_before a b = is_lt (text_cmp (name a) (name b))

  pub names_order : IsStrictWeakOrder is_named_before
  names_order = ranks_by nat_list_cmp_total name

  pub in_sequence : (xs : List X) → IsStrictlySortedBy text_cmp (map name xs) → IsSortedBy is_named_before xs
  unfolding IsStrictlySortedBy
  in_sequence [] h k d low high = absurd (omega (arith, high))
  in_sequence (x ∷ []) h k d low high = absurd (omega (arith, high))
  in_sequence (x ∷ y ∷ xs) h zero d low high = ap is_lt (flipped (name x) (name y) Less h.0.0)
  in_sequence (x ∷ y ∷ xs) h (suc k) d low high =
      let next : suc k + 1 ≡ suc (k + 1) = omega arith in
      subst (λ n. is_lt (text_cmp (name (get_or (x ∷ y ∷ xs) n d)) (name (get_or (y ∷ xs) k d))) ≡ false) (sym next)
      (in_sequence (y ∷ xs) h.1 k d (omega arith) (omega (arith, high)))

  -- a binary search for a name
  pub searchable : (q : Text) (xs : List X) → IsStrictlySortedBy text_cmp (map name xs)
      → IsNonDecreasingBy (λ (x : X). ordering_index (text_cmp (name x) q)) xs
  searchable q xs h = searchable_from_sorted nat_list_cmp_total name xs q (in_sequence xs h)

-- what a binary search for a name says of entries in their order
named_at : {X : Type 0} (q : Text) (es : List (Text × X)) (k : ℕ) → k < length es
    → ((d : Text × X) → text_cmp (get_or es k d).0 q ≡ Equal) → is_some (at_name es q) ≡ true
named_at q [] k within here = absurd (omega (arith, within))
named_at q (e ∷ es) zero within here =
    ap (λ o. is_some (cond (is_eq o) (Some e.1) (at_name es q))) (flipped e.0 q Equal (here e))
named_at {X} q (e ∷ es) (suc k) within here =
    elim (is_eq (text_cmp q e.0)) as (λ b. is_some (cond b (Some e.1) (at_name es q)) ≡ true) [
      | true ↦ refl
      | false ↦ named_at q es k (omega (arith, within)) here
    ]

none_named : {X : Type 0} (q : Text) (es : List (Text × X))
    → ((k : ℕ) (d : Text × X) → k < length es → is_eq (text_cmp (get_or es k d).0 q) ≡ false)
    → is_some (at_name es q) ≡ false
none_named q [] h = refl
none_named q (e ∷ es) h =
    ap (λ b. is_some (cond b (Some e.1) (at_name es q))) (other_way e.0 q (h 0 e (omega arith)))
    ∙ none_named q es (λ k d below. h (suc k) d (omega (arith, below)))

pub searched : {X : Type 0} (q : Text) (es : List (Text × X)) → AreInOrder es → (r : Result ℕ ℕ)
    → IsSearchInRange r (length es) → IsBinarySearchResult (λ (e : Text × X). text_cmp e.0 q) es r
    → is_ok r ≡ is_some (at_name es q)
searched q es sorted (Ok k) within here = sym (named_at q es k within here)
searched {X} q es sorted (Err i) within parts = sym (none_named q es (λ k d below. by k d below (cases_lt k i)))
  where
    point : IsPartitionPoint (λ (e : Text × X). text_cmp e.0 q ≡ Less) (λ (e : Text × X). text_cmp e.0 q ≡ Greater) es i
    point = parts (searchable (λ (e : Text × X). e.0) q es sorted)

    by : (k : ℕ) (d : Text × X) → k < length es → (k < i) ⊎ (i ≤ k) → is_eq (text_cmp (get_or es k d).0 q) ≡ false
    by k d below (inl less) = ap is_eq (point.0 k d (omega arith) less)
    by k d below (inr more) = ap is_eq (point.1 k d more below)

-- an entry that the map has
entry_found : {X : Type 0} (es : List (Text × X)) → AreInOrder es → (e : Text × X) → Contains es e
    → at_name es e.0 ≡ Some e.1
entry_found {X} es sorted e there =
    subst (λ (f : Text × X). at_name es f.0 ≡ Some f.1) there.2
    (All-from_recursion (λ (f : Text × X). at_name es f.0 ≡ Some f.1) es (each_found es sorted) there.0 e there.1)

-- names of which neither comes before the other are the same
tied_names : (k q : Text) → is_lt (text_cmp k q) ≡ false → is_lt (text_cmp q k) ≡ false → k ≡ q
tied_names k q before after =
    elim (text_cmp k q) as (λ o. text_cmp k q ≡ o → k ≡ q) [
      | Less ↦ λ t. absurd (both_ways _ before (ap is_lt t))
      | Equal ↦ λ t. same_name k q (ap is_eq t)
      | Greater ↦ λ t. absurd (both_ways _ after (ap is_lt (flipped k q Greater t)))
    ] refl

-- the entries of a map, sorted by their names, are the map
pub in_order_again : {X : Type 0} (es xs ys : List (Text × X)) → AreInOrder es → IsPermutation xs es → IsPermutation xs ys
    → IsSortedBy (is_named_before (λ (e : Text × X). e.0)) ys → ys ≡ es
in_order_again {X} es xs ys sorted all moved up =
    same ys up moved ∙ sym (same es (in_sequence (λ (e : Text × X). e.0) es sorted) all)
  where
    before : Text × X → Text × X → Bool
    before = is_named_before (λ (e : Text × X). e.0)

    found : (e : Text × X) → Contains xs e → at_name es e.0 ≡ Some e.1
    found e there = entry_found es sorted e (Contains-permutation xs es e all there)

    ties : (a b : Text × X) → Contains xs a → Contains xs b → before a b ≡ false → before b a ≡ false → a ≡ b
    ties a b p q less more =
        let names : a.0 ≡ b.0 = tied_names a.0 b.0 less more in
        let values : Some a.1 ≡ Some b.1 = sym (found a p) ∙ ap (at_name es) names ∙ found b q in
        let value : a.1 ≡ b.1 = cc in
        λ i. (names i, value i)

    same : (zs : List (Text × X)) → IsSortedBy before zs → IsPermutation xs zs → zs ≡ sorted_by before xs
    same zs up moved = sorted_of_same before (names_order (λ (e : Text × X). e.0)) xs zs ties up moved

-- and so is a row, of which one alone stays as it is
pub sorted_row : {X : Type 0} (es : List (Text × X)) (alone : Option (List (Text × X))) (xs ys : List (Text × X))
    → AreInOrder es → IsRow alone xs → IsPermutation xs ys → IsSortedBy (is_named_before (λ (e : Text × X). e.0)) ys
    → IsPermutation (unwrap_or alone xs) es → unwrap_or alone ys ≡ es
sorted_row es None xs ys sorted row moved up all = in_order_again es xs ys sorted all moved up
sorted_row es (Some one) xs ys sorted row moved up all =
    in_order_again es one one sorted all (IsPermutation-refl one)
    (λ k d low high. absurd (omega (arith, high, row.0)))
