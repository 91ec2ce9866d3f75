-- to believe: what a view shows
use Rattle.std.specs.Prelude.{ℕ, List, map, Option, None, Some}
use Rattle.std.specs.Option.{option_map, option_and_then}
use Rattle.casa_filing.specs.declared.regulation.Regulation.{Regulation}
use Rattle.casa_flight.specs.declared.row.Row.{Row}
use Rattle.casa_filing.specs.Text.{Text}
use Rattle.casa_flight.specs.Good.{AreInOrder}
use Rattle.casa_flight.specs.Listing.{Listing}
use Rattle.casa_footprint.specs.Items.{ItemName, the_clock, the_catalogue, a_row, a_list}
use Rattle.casa_item.specs.declared.item.Item.{Item}
use Rattle.casa_item.specs.declared.item.Item.TheVariants.{Clock, Catalogue, Row as RowOf, List as ListOf}
use Rattle.casa_view.specs.declared.view.View.{View}
use Rattle.casa_view.specs.declared.view.Part.{Part}
use Rattle.casa_view.specs.declared.view.Part.TheVariants.{All, Named}
use Rattle.casa_item.specs.Versions.{moment_of, row_of, list_of}
use Rattle.casa_view.specs.View.{seen}
use Rattle.casa_table.specs.Flights.{rows_of, rows_named}

-- the regulations of a catalogue; no other item has any
abbrev pub catalogue_of : Item → Option (List Regulation)
catalogue_of (Clock at) = None
catalogue_of (Catalogue all) = Some all
catalogue_of (RowOf key row) = None
catalogue_of (ListOf id list) = None

-- what a part of a view holds is in the order of its names
abbrev pub IsInOrder : {K V I : Type 0} → Part K V I → Type 0
IsInOrder (All entries) = AreInOrder entries
IsInOrder (Named noted) = AreInOrder noted

-- the rows that a view holds are in the order of their keys
abbrev pub HasRowsInOrder : {V : Type 0} → View V → Type 0
HasRowsInOrder v = IsInOrder v.rows

module _ {V : Type 0} (item_of : V → Item) where
  -- the item that a view shows under a name: none where the view does not hold it, or where it is not there
  abbrev pub item_shown : View V → ItemName → Option Item
  item_shown v i = option_and_then (option_map item_of) (seen v i)

  -- what a view shows of the clock, the catalogue, a row and a list
  abbrev pub clock_shown : View V → Option ℕ
  clock_shown v = option_map moment_of (item_shown v the_clock)

  abbrev pub catalogue_shown : View V → Option (List Regulation)
  catalogue_shown v = option_and_then catalogue_of (item_shown v the_catalogue)

  abbrev pub row_shown : View V → Text → Option Row
  row_shown v key = option_and_then row_of (item_shown v (a_row key))

  abbrev pub list_shown : View V → Text → Option Listing
  list_shown v id = option_and_then list_of (item_shown v (a_list id))

  -- the rows that a part of a view has, as its entries come
  abbrev pub rows_in : {K I : Type 0} → Part K V I → List (Text × Row)
  rows_in (All entries) = rows_of item_of entries
  rows_in (Named noted) = rows_named item_of noted

  -- the rows that a view shows
  abbrev pub rows_shown : View V → List (Text × Row)
  rows_shown v = rows_in v.rows

  -- inner: the lists that a part of a view has, and which it has not, as its entries come
  abbrev pub list_named : Option V → Option Listing
  list_named w = option_and_then (λ (v : V). list_of (item_of v)) w

  -- inner: the same of all its entries
  abbrev pub lists_in : {K I : Type 0} → Part K V I → List (Text × Option Listing)
  lists_in (All entries) = map (λ (e : Text × V). (e.0, list_of (item_of e.1))) entries
  lists_in (Named noted) = map (λ (e : Text × Option V). (e.0, list_named e.1)) noted

  -- inner: the lists that a view shows
  abbrev pub lists_shown : View V → List (Text × Option Listing)
  lists_shown v = lists_in v.lists
