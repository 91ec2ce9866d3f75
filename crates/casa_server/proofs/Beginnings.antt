-- texts by which bytes begin, and bytes by which texts begin
use Rattle.std.proofs.Common.{◌≡◌, ℕ, ◌<◌, ◌≤◌, List, [], ◌∷◌, ◌++◌, length, take, drop, Bool, true, false, ◌||◌, ◌&&◌, refl, sym, ap, ◌∙◌, arith, length-append, append_assoc, inl, inr}
use Rattle.std.specs.Prelude.{nat_eq, nat_le}
use Rattle.std.specs.List.{list_any, list_all, starts_with}
use Rattle.std.proofs.Math.Seq.{take-append_seam}
use Rattle.std.proofs.lemmas.Bool.{cases_lt, leb-true, or_cases}
use Rattle.std.proofs.lemmas.List.{append-nil, take-append-le, take-append-drop}
use Rattle.std.proofs.lemmas.Slice.Eq.{starts_is}
use Rattle.std.proofs.lemmas.Bool.Decides.{Decides-eqb}

or_stays : (a b c d : Bool) → (a ≡ true → c ≡ true) → (b ≡ true → d ≡ true) → (a || b) ≡ true → (c || d) ≡ true
or_stays true b c d first second e = ap (λ (x : Bool). x || d) (first refl)
or_stays false b true d first second e = refl
or_stays false b false d first second e = second e

neither : (a b c d e f : Bool) → (a || b) ≡ false → (c || d) ≡ false → (a ≡ false → c ≡ false → e ≡ false) → (b ≡ false → d ≡ false → f ≡ false) → (e || f) ≡ false
neither true b c d e f none no_part first second = cc
neither false b true d e f none no_part first second = cc
neither false b false d true f none no_part first second = let bad : true ≡ false = first refl refl in cc
neither false b false d false f none no_part first second = second none no_part

begins : (s p : List ℕ) → (starts_with nat_eq s p ≡ true → s ≡ p ++ drop (length p) s) × ((rest : List ℕ) → s ≡ p ++ rest → starts_with nat_eq s p ≡ true)
begins s p = starts_is Decides-eqb s p (starts_with nat_eq s p) refl

-- a text by which bytes begin is one by which they begin with more behind them
stays : (s p rest : List ℕ) → starts_with nat_eq s p ≡ true → starts_with nat_eq (s ++ rest) p ≡ true
stays s p rest is = (begins (s ++ rest) p).1 (drop (length p) s ++ rest)
    (ap (λ (l : List ℕ). l ++ rest) ((begins s p).0 is) ∙ append_assoc p (drop (length p) s) rest)

-- two lists that begin one list: one of them begins the other
shorter : (s p rest more : List ℕ) → s ++ rest ≡ p ++ more → length p ≤ length s → starts_with nat_eq s p ≡ true
shorter s p rest more e within = (begins s p).1 (drop (length p) s)
    (sym (take-append-drop (length p) s)
    ∙ ap (λ (l : List ℕ). l ++ drop (length p) s)
    (sym (take-append-le (length p) s rest within) ∙ ap (λ (l : List ℕ). take (length p) l) e ∙ take-append_seam p more))

-- a text by which bytes do not begin, and which does not begin by them, is none by which they begin with more behind them
later : (s p rest : List ℕ) → starts_with nat_eq s p ≡ false → starts_with nat_eq p s ≡ false → (b : Bool) → starts_with nat_eq (s ++ rest) p ≡ b → b ≡ false
later s p rest none no_part false e = refl
later s p rest none no_part true e =
    let whole : s ++ rest ≡ p ++ drop (length p) (s ++ rest) = (begins (s ++ rest) p).0 e in
    elim (cases_lt (length s) (length p)) [
      | inl less ↦ let is : starts_with nat_eq p s ≡ true = shorter p s _ rest (sym whole) (omega arith) in cc
      | inr more ↦ let is : starts_with nat_eq s p ≡ true = shorter s p rest _ whole more in cc
    ]

-- the same of several texts
pub any_stays : (ps : List (List ℕ)) (s rest : List ℕ) → list_any (λ (p : List ℕ). starts_with nat_eq s p) ps ≡ true
    → list_any (λ (p : List ℕ). starts_with nat_eq (s ++ rest) p) ps ≡ true
any_stays [] s rest is = is
any_stays (p ∷ ps) s rest is = or_stays _ _ _ _ (stays s p rest) (any_stays ps s rest) is

pub none_later : (ps : List (List ℕ)) (s rest : List ℕ) → list_any (λ (p : List ℕ). starts_with nat_eq s p) ps ≡ false
    → list_any (λ (p : List ℕ). starts_with nat_eq p s) ps ≡ false → list_any (λ (p : List ℕ). starts_with nat_eq (s ++ rest) p) ps ≡ false
none_later [] s rest none no_part = none
none_later (p ∷ ps) s rest none no_part =
    neither _ _ _ _ _ _ none no_part (λ a b. later s p rest a b _ refl) (λ a b. none_later ps s rest a b)

none_left : (xs : List ℕ) → length xs ≡ 0 → xs ≡ []
none_left [] none = refl
none_left (x ∷ xs) none = absurd (omega arith)

both : (a b : Bool) → (a && b) ≡ true → (a ≡ true) × (b ≡ true)
both true b e = (refl, e)
both false b e = cc

nor : (a b : Bool) → (a || b) ≡ false → (a ≡ false) × (b ≡ false)
nor true b e = cc
nor false b e = (refl, e)

-- bytes that are a part of a text, and that do not begin by it, are shorter
part_is_short : (p s : List ℕ) (n : ℕ) → nat_le (length p) n ≡ true → starts_with nat_eq s p ≡ false → starts_with nat_eq p s ≡ true → length s < n
part_is_short p s n short none is =
    let within : length p ≤ n = leb-true _ _ short in
    let part : p ≡ s ++ drop (length s) p = (begins p s).0 is in
    elim (cases_lt (length s) (length p)) [
      | inl less ↦ omega arith
      | inr more ↦
          let q : List ℕ = drop (length s) p in
          let nothing : q ≡ [] = none_left q (omega (arith, ap length part, length-append s q)) in
          let same : p ≡ s = part ∙ ap (λ (l : List ℕ). s ++ l) nothing ∙ append-nil s in
          let also : starts_with nat_eq s p ≡ true = (begins s p).1 [] (sym (append-nil p ∙ same)) in cc
    ]

-- bytes that are a part of one of these texts, and that do not begin by one of them, are shorter than the longest
pub any_is_short : (ps : List (List ℕ)) (s : List ℕ) (n : ℕ) → list_all (λ (p : List ℕ). nat_le (length p) n) ps ≡ true
    → list_any (λ (p : List ℕ). starts_with nat_eq s p) ps ≡ false
    → list_any (λ (p : List ℕ). starts_with nat_eq p s) ps ≡ true → length s < n
any_is_short [] s n short none some = cc
any_is_short (p ∷ ps) s n short none some =
    elim (or_cases _ _ some) [
      | inl is ↦ part_is_short p s n (both _ _ short).0 (nor _ _ none).0 is
      | inr is ↦ any_is_short ps s n (both _ _ short).1 (nor _ _ none).1 is
    ]
