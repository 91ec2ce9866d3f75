-- to believe: the versions after a change
use Rattle.std.specs.Prelude.{◌≡◌, ℕ, Bool, true, false, not, is_some, Option, None, Some, if◌then◌else◌}
use Rattle.casa_footprint.specs.Items.{ItemName, Content, moment, regulations, row_or_none, list_or_none}
use Rattle.casa_item.specs.declared.item.Item.{Item}
use Rattle.casa_item.specs.Versions.{Versions, IsInOrder, version_at, content_at, stamp_at}

-- whether what is said is that a row is absent
abbrev pub is_absence : Content → Bool
is_absence (moment at) = false
is_absence (regulations all) = false
is_absence (row_or_none row) = not (is_some row)
is_absence (list_or_none list) = false

-- the versions after a change by the entry at a position: what it says has that stamp, an absent row no version and so the stamp 0,
-- and all other versions are as they were; rows and lists are in order before and after
pub record IsApplied {V : Type 0} (item_of : V → Item) (stamp_of : V → ℕ) (says : ItemName → Option Content) (position : ℕ)
    (before now : Versions V) : Type 0 where
  pub were_in_order : IsInOrder before
  pub in_order : IsInOrder now
  pub written : (i : ItemName) (x : Content) → says i ≡ Some x → content_at item_of now i ≡ x
  pub stamped : (i : ItemName) (x : Content) → says i ≡ Some x → stamp_at stamp_of now i ≡ (if is_absence x then 0 else position)
  pub without : (i : ItemName) (x : Content) → says i ≡ Some x → is_absence x ≡ true → version_at now i ≡ None
  pub others : (i : ItemName) → says i ≡ None → version_at now i ≡ version_at before i
