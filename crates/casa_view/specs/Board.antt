-- to believe: the versions that a board has, and those that come next
use Rattle.std.specs.Prelude.{List, Option, unwrap_or}
use Rattle.std.specs.Option.{option_map}
use Rattle.std.specs.Global.{Global}
use Rattle.std.specs.declared.sync.Arc.{Arc}
use Rattle.std.specs.Arc.{arc_value}
use Rattle.casa_filing.specs.declared.regulation.Regulation.{Regulation}
use Rattle.casa_item.specs.declared.item.Item.{Item}
use Rattle.casa_view.specs.declared.items.Items.{Items}
use Rattle.casa_item.specs.Versions.{Versions, regulations_of}

-- the versions of all items, and those to which the next change turns
abbrev pub versions : {V : Type 0} → Items V → Versions V
versions b = record { clock = b.clock; catalogue = b.catalogue; rows = b.rows.entries; lists = b.lists.entries }

abbrev pub next_versions : {V : Type 0} → Items V → Versions V
next_versions b = record {
  clock = unwrap_or b.next_clock b.clock;
  catalogue = unwrap_or b.next_catalogue b.catalogue;
  rows = b.rows.next;
  lists = b.lists.next;
}

-- inner: the catalogue that a change writes, if it writes one
abbrev pub catalogue_written : Option (Arc Item Global) → Option (List Regulation)
catalogue_written written = option_map (λ (item : Arc Item Global). regulations_of (arc_value item)) written
