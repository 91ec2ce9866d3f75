-- inner contracts: when versions that are copies are the same
use Rattle.std.specs.Prelude.{◌≡◌, ℕ, Bool, true, ◌==◌, ◌&&◌}
use Rattle.std.specs.Cmp.Derive.{both_true}
use Rattle.std.proofs.Common.{refl}
use Rattle.std.proofs.lemmas.Bool.{eq-eqb, eqb-true, and_parts}
use Rattle.casa_item.specs.declared.item.Item.{Item}
use Rattle.casa_item.specs.contracts.item.ItemPartialEq.TheImpl.{ghosts as item}
use Rattle.casa_item.specs.contracts.item.ItemEq.TheImpl.Laws.{laws-law as item_laws}
use Rattle.casa_item.specs.contracts.item.Item.{the_row}
use base.Stored.{Coded, coded×, coded_ℕ}

-- whether versions have the same stamp and the same contents
abbrev pub is_same_copy : ℕ × Item → ℕ × Item → Bool
is_same_copy a b = a.0 == b.0 && item.eq a.1 b.1

pub same_copy : (m : ℕ × Item) → is_same_copy m m ≡ true
same_copy m = both_true (eq-eqb m.0 m.0 refl) (item_laws.refl m.1)

pub same_copy_stamp : (a b : ℕ × Item) → is_same_copy a b ≡ true → a.0 ≡ b.0
same_copy_stamp a b h = eqb-true a.0 b.0 (and_parts _ _ h).0

abbrev pub copy_code : Coded (ℕ × Item)
copy_code = coded× coded_ℕ the_row.coded
