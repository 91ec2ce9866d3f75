-- the first bytes of some, where there is one byte more
use Rattle.std.proofs.Common.{◌≡◌, ℕ, ◌<◌, ◌≤◌, ◌∙◌, List, [], ◌∷◌, ◌++◌, length, take, sym, ap, arith, length-append, length-take}
use Rattle.std.proofs.lemmas.List.{take-append-le, take_all}

pub first_more : (n : ℕ) (first before : List ℕ) (b : ℕ) → first ≡ take n before → length first < n → first ++ b ∷ [] ≡ take n (before ++ b ∷ [])
first_more n first before b e room =
    let short : length before < n = omega (arith, length-take n before, ap length e) in
    ap (λ (x : List ℕ). x ++ b ∷ []) (e ∙ take_all n before (omega arith)) ∙ sym (take_all n (before ++ b ∷ []) (simp length-append (omega arith)))

pub first_full : (n : ℕ) (first before : List ℕ) (b : ℕ) → first ≡ take n before → n ≤ length first → first ≡ take n (before ++ b ∷ [])
first_full n first before b e full =
    let long : n ≤ length before = omega (arith, length-take n before, ap length e) in
    e ∙ sym (take-append-le n before (b ∷ []) long)
