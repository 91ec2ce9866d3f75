-- what stands in lists
use Rattle.std.proofs.Common.{◌≡◌, ◌≢◌, ◌⊎◌, ℕ, zero, suc, ◌<◌, ◌≤◌, Some, None, List, take, drop, [], ◌∷◌, ◌++◌, length, set, get_or, sym, ap, subst, ◌∙◌, refl, inl, inr, arith, get_or-set_same, get_or-set_other}
use Rattle.std.specs.Prelude.{slice_get}
use Rattle.std.proofs.Math.ListN.{length-set}
use Rattle.std.proofs.Math.Seq.{take-append_seam}
use Rattle.std.proofs.lemmas.Bool.{cases_eq}
use Rattle.std.proofs.lemmas.List.{take-append-le}
use Rattle.std.proofs.lemmas.Option.{slice_get_within, slice_get_read, get_or_from_slice_get}

module _ {X : Type 0} where
  -- what stands in a list of which one element was changed
  pub at_set : (xs : List X) (i : ℕ) (y : X) (k : ℕ) (x : X) → slice_get (set xs i y) k ≡ Some x
      → ((k ≡ i) × (x ≡ y)) ⊎ ((k ≢ i) × (slice_get xs k ≡ Some x))
  at_set xs i y k x at =
      let long : length (set xs i y) ≡ length xs = length-set xs i y in
      let short : k < length (set xs i y) = slice_get_within (set xs i y) k x at in
      let within : k < length xs = omega (arith, long, short) in
      let is : get_or (set xs i y) k x ≡ x = get_or_from_slice_get (set xs i y) k x x at in
      elim (cases_eq k i) [
        | inl same ↦
            let inside : i < length xs = omega (arith, same, within) in
            let there : get_or (set xs i y) k x ≡ y =
            ap (λ n. get_or (set xs i y) n x) same ∙ get_or-set_same xs i y x inside in
            inl (same, sym is ∙ there)
        | inr other ↦
            let stays : get_or (set xs i y) k x ≡ get_or xs k x = get_or-set_other xs i k y x other in
            inr (other, slice_get_read xs (length xs) k x refl within (sym is ∙ stays))
      ]

  -- what stands in a list with one more element
  pub at_push : (xs : List X) (y : X) (k : ℕ) (x : X) → slice_get (xs ++ y ∷ []) k ≡ Some x
      → (slice_get xs k ≡ Some x) ⊎ ((k ≡ length xs) × (x ≡ y))
  at_push [] y zero x at = inr (refl, cc)
  at_push [] y (suc k) x at = absurd (cc)
  at_push (z ∷ zs) y zero x at = inl at
  at_push (z ∷ zs) y (suc k) x at =
      elim (at_push zs y k x at) [
        | inl before ↦ inl before
        | inr last ↦ inr (omega (arith, last.0), last.1)
      ]

  -- what stands in a list stands there before more
  pub at_before : (xs ys : List X) (k : ℕ) (x : X) → slice_get xs k ≡ Some x → slice_get (xs ++ ys) k ≡ Some x
  at_before [] ys k x at = absurd (cc)
  at_before (z ∷ xs) ys zero x at = at
  at_before (z ∷ xs) ys (suc k) x at = at_before xs ys k x at

  -- and what stands before it stands there too
  pub take_before : (xs ys : List X) (k : ℕ) (x : X) → slice_get xs k ≡ Some x → take k (xs ++ ys) ≡ take k xs
  take_before xs ys k x at =
      let within = slice_get_within xs k x at in
      let short : k ≤ length xs = omega (arith, within) in
      take-append-le k xs ys short

  -- what is not there is beyond the end
  pub none_past : (xs : List X) (k : ℕ) → slice_get xs k ≡ None → length xs ≤ k
  none_past [] k none = omega arith
  none_past (x ∷ xs) zero none = absurd (cc)
  none_past (x ∷ xs) (suc k) none = let rest : length xs ≤ k = none_past xs k none in omega (arith, rest)

  -- a slice that is written back is the whole list
  pub written_back : (n : ℕ) (xs ys : List X) → length xs ≡ n → take n (xs ++ drop (length xs) ys) ≡ xs
  written_back n xs ys is =
      subst (λ k. take k (xs ++ drop (length xs) ys) ≡ xs) is (take-append_seam xs (drop (length xs) ys))
