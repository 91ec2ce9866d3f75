-- to believe: the versions of a board's items, and the state that they show
use Rattle.std.specs.Prelude.{◌≡◌, ℕ, List, [], map, Option, None, Some, IsSome}
use Rattle.std.specs.Option.{option_map, option_map_or, option_and_then}
use Rattle.casa_filing.specs.declared.regulation.Regulation.{Regulation}
use Rattle.casa_filing.specs.declared.regulation.Measure.{Measure}
use Rattle.casa_flight.specs.declared.row.Row.{Row}
use Rattle.casa_flight.specs.declared.state.State.{State}
use Rattle.casa_filing.specs.Text.{Text, at_name}
use Rattle.casa_flight.specs.Listing.{Listing, filter_map_values}
use Rattle.casa_flight.specs.Good.{AreInOrder}
use Rattle.casa_footprint.specs.Items.{ItemName, the_clock, the_catalogue, a_row, a_list, Content, moment, regulations}
use Rattle.casa_footprint.specs.Items.{row_or_none, list_or_none}
use Rattle.casa_item.specs.declared.item.Item.{Item}
use Rattle.casa_item.specs.declared.item.Item.TheVariants.{Clock, Catalogue, Row as RowOf, List as ListOf}

-- what an item contains: the moment of a clock, the regulations of a catalogue, the row or the list, if it is one
abbrev pub moment_of : Item → ℕ
moment_of (Clock at) = at
moment_of (Catalogue all) = 0
moment_of (RowOf key row) = 0
moment_of (ListOf id list) = 0

abbrev pub regulations_of : Item → List Regulation
regulations_of (Clock at) = []
regulations_of (Catalogue all) = all
regulations_of (RowOf key row) = []
regulations_of (ListOf id list) = []

abbrev pub row_of : Item → Option Row
row_of (Clock at) = None
row_of (Catalogue all) = None
row_of (RowOf key row) = row
row_of (ListOf id list) = None

abbrev pub list_of : Item → Option Listing
list_of (Clock at) = None
list_of (Catalogue all) = None
list_of (RowOf key row) = None
list_of (ListOf id list) = list

-- what is under a name, as the content of the item of this name; none there is an absence
abbrev pub content_as : ItemName → Option Item → Content
content_as the_clock v = moment (option_map_or moment_of v 0)
content_as the_catalogue v = regulations (option_map_or regulations_of v [])
content_as (a_row key) v = row_or_none (option_and_then row_of v)
content_as (a_list id) v = list_or_none (option_and_then list_of v)

-- the versions of all items of a board
pub record Versions (V : Type 0) : Type 0 where
  pub clock : V
  pub catalogue : V
  pub rows : List (Text × V)
  pub lists : List (Text × V)

-- the version of an item, if it has one: an absent row has none, an absent list may have that of its close
abbrev pub version_at : {V : Type 0} → Versions V → ItemName → Option V
version_at vs the_clock = Some vs.clock
version_at vs the_catalogue = Some vs.catalogue
version_at vs (a_row key) = at_name vs.rows key
version_at vs (a_list id) = at_name vs.lists id

-- rows and lists are in the order of their names
pub record IsInOrder {V : Type 0} (vs : Versions V) : Type 0 where
  pub rows : AreInOrder vs.rows
  pub lists : AreInOrder vs.lists

-- inner: rows and lists are in order, and a row has a version only while it is there
pub record IsOrderly {V : Type 0} (item_of : V → Item) (vs : Versions V) : Type 0 where
  pub in_order : IsInOrder vs
  pub rows_are_there : (key : Text) (v : V) → at_name vs.rows key ≡ Some v → IsSome (row_of (item_of v))

-- the regulations of a catalogue with the profiles of their lists
abbrev pub measures : List Regulation → (Text → Option Listing) → List (Text × Measure)
measures all lists =
    map (λ (r : Regulation).
    (r.id, record { loc = r.loc; profile = option_map_or (λ (l : Listing). l.profile) (lists r.id) [] })) all

-- the stamp of an item, by its version
abbrev pub stamp_at : {V : Type 0} → (V → ℕ) → Versions V → ItemName → ℕ
stamp_at stamp_of vs i = option_map_or stamp_of (version_at vs i) 0

module _ {V : Type 0} (item_of : V → Item) where
  -- what an item contains, by its version
  abbrev pub content_at : Versions V → ItemName → Content
  content_at vs i = content_as i (option_map item_of (version_at vs i))

  abbrev pub list_at : Versions V → Text → Option Listing
  list_at vs id = option_and_then (λ (v : V). list_of (item_of v)) (at_name vs.lists id)

  -- the state that the versions of a board show
  abbrev pub shown_state : Versions V → State
  shown_state vs = record {
    clock = moment_of (item_of vs.clock);
    regs = measures (regulations_of (item_of vs.catalogue)) (list_at vs);
    rows = filter_map_values (λ (v : V). row_of (item_of v)) vs.rows;
  }
