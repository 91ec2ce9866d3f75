-- inner contracts: when versions on a shelf are the same
use Rattle.std.specs.Prelude.{◌≡◌, ℕ, List, Bool, true, ◌==◌, ◌&&◌}
use Rattle.std.specs.Cmp.Derive.{both_true}
use Rattle.std.proofs.Common.{refl}
use Rattle.std.proofs.lemmas.Bool.{eq-eqb, eqb-true, and_parts}
use Rattle.casa_item.specs.declared.item.Item.{Item}
use Rattle.casa_item.specs.contracts.item.Item.{the_row}
use Rattle.casa_item.specs.Numbers.{numbers_by, told_by}
use base.Stored.{Coded, coded×, coded_ℕ, coded_via}

-- whether versions have the same stamp and the same position
abbrev pub is_same_position : ℕ × ℕ × Item → ℕ × ℕ × Item → Bool
is_same_position a b = a.0 == b.0 && a.1 == b.1

pub same_position : (m : ℕ × ℕ × Item) → is_same_position m m ≡ true
same_position m = both_true (eq-eqb m.0 m.0 refl) (eq-eqb m.1 m.1 refl)

pub same_position_stamp : (a b : ℕ × ℕ × Item) → is_same_position a b ≡ true → a.0 ≡ b.0
same_position_stamp a b h = eqb-true a.0 b.0 (and_parts _ _ h).0

-- how the logic stores such a version
abbrev pub shelved_code : Coded (ℕ × ℕ × Item)
shelved_code =
    coded_via (coded× coded_ℕ (coded× coded_ℕ the_row.coded)) (λ (m : ℕ × ℕ × Item). (m.0, (m.1, m.2)))
    (λ x y e i. ((e i).0, (e i).1.0, (e i).1.1))

-- the numbers that stand for an item
abbrev pub item_numbers : Item → List ℕ
item_numbers = numbers_by the_row.coded

pub same_numbers : (a b : Item) → item_numbers a ≡ item_numbers b → a ≡ b
same_numbers = told_by the_row.coded
