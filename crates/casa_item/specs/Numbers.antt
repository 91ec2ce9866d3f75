-- inner contracts: numbers that stand for a value, and tell it from all others
use Rattle.std.specs.Prelude.{◌≡◌, ℕ, List, [], ◌∷◌}
use Rattle.std.proofs.Common.{refl, ap}
use base.Stored.{Gv, gnil, gnum, gcons, Coded}

-- the numbers that stand for a value as the logic stores it, before others: which kind of part comes, and then the part
abbrev pub numbers_before : List ℕ → Gv → List ℕ
numbers_before ns gnil = 0 ∷ ns
numbers_before ns (gnum n) = 1 ∷ n ∷ ns
numbers_before ns (gcons a b) = 2 ∷ numbers_before (numbers_before ns b) a

abbrev rest : List ℕ → List ℕ
rest [] = []
rest (n ∷ ns) = ns

abbrev first : List ℕ → ℕ
first [] = 0
first (n ∷ ns) = n

pub told-before : (x y : Gv) (ns ms : List ℕ) → numbers_before ns x ≡ numbers_before ms y → (x ≡ y) × (ns ≡ ms)
told-before gnil gnil ns ms h = (refl, ap rest h)
told-before (gnum m) (gnum n) ns ms h = (ap (λ (k : List ℕ). gnum (first (rest k))) h, ap (λ (k : List ℕ). rest (rest k)) h)
told-before (gcons a b) (gcons c d) ns ms h =
    let one = told-before a c (numbers_before ns b) (numbers_before ms d) (ap rest h) in
    let two = told-before b d ns ms one.1 in
    (λ i. gcons (one.0 i) (two.0 i), two.1)
told-before gnil (gnum n) ns ms h = let no : 0 ≡ 1 = ap first h in cc
told-before gnil (gcons c d) ns ms h = let no : 0 ≡ 2 = ap first h in cc
told-before (gnum m) gnil ns ms h = let no : 1 ≡ 0 = ap first h in cc
told-before (gnum m) (gcons c d) ns ms h = let no : 1 ≡ 2 = ap first h in cc
told-before (gcons a b) gnil ns ms h = let no : 2 ≡ 0 = ap first h in cc
told-before (gcons a b) (gnum n) ns ms h = let no : 2 ≡ 1 = ap first h in cc

-- the numbers that stand for a value
abbrev pub numbers_by : {X : Type 0} → Coded X → X → List ℕ
numbers_by coded x = numbers_before [] (coded.code x)

pub told_by : {X : Type 0} (coded : Coded X) (x y : X) → numbers_by coded x ≡ numbers_by coded y → x ≡ y
told_by coded x y h = coded.inj x y (told-before (coded.code x) (coded.code y) [] [] h).0
