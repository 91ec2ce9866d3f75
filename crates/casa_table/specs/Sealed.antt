-- inner contracts: the numbers for which a seal of entries was given
use Rattle.std.specs.Prelude.{◌≡◌, ℕ, List, [], Option, IfSome, IsSome}
use base.Stored.{gnum, gcons, code_l}
use Rattle.casa_filing.specs.Text.{Text}
use Rattle.casa_item.specs.Numbers.{numbers_before}

-- the numbers that stand for entries, by those that stand for each value
abbrev pub numbers_of : {V : Type 0} → (V → List ℕ) → List (Text × V) → List ℕ
numbers_of {V} numbers es =
    numbers_before [] (code_l (λ (e : Text × V). gcons (code_l gnum e.0) (code_l gnum (numbers e.1))) es)

-- a seal, if there is one, is of these entries: it has a position, and the numbers that stand for them
abbrev pub IsSealOf : {V : Type 0} → (V → List ℕ) → List (Text × V) → Option (ℕ × List ℕ) → Type 0
IsSealOf numbers es seal = IfSome seal (λ (s : ℕ × List ℕ). s.1 ≡ numbers_of numbers es)

-- there are seals, and they are the same
abbrev pub IsSameSeal : Option (ℕ × List ℕ) → Option (ℕ × List ℕ) → Type 0
IsSameSeal one other = (one ≡ other) × IsSome one
