-- inner contracts: which flights are due, and which are subject to a regulation, as they are found by their keys
use Rattle.std.specs.Prelude.{◌≡◌, ℕ, List, ◌++◌, map, Option, Some}
use Rattle.std.specs.Option.{option_map, option_and_then}
use Rattle.std.specs.List.{AllByRecursion, filter_map}
use Rattle.casa_flight.specs.declared.comp.Comp.{Comp}
use Rattle.casa_filing.specs.declared.regulation.Regulation.{Regulation}
use Rattle.casa_flight.specs.declared.row.Row.{Row}
use Rattle.casa_filing.specs.Text.{Text, at_name}
use Rattle.casa_item.specs.declared.item.Item.{Item}
use Rattle.casa_item.specs.Versions.{row_of}
use Rattle.casa_table.specs.declared.asking.FlightOver.{FlightOver}
use Rattle.casa_table.specs.Waiting.{due_row}
use Rattle.casa_table.specs.Passing.{over_row}

-- the off-block time in the row that a version shows, if the flight is to be issued at this time
abbrev pub due_version : {V : Type 0} → (V → Item) → ℕ → V → Option ℕ
due_version item_of at v = option_and_then (due_row at) (row_of (item_of v))

-- to believe: each of these flights has its row
abbrev pub HaveRows : List (Text × Row) → List FlightOver → Type 0
HaveRows rows flights = AllByRecursion (λ (f : FlightOver). at_name rows f.comp.key ≡ Some f.row.now) flights

-- to believe: their times over and keys
abbrev pub comps_of : List FlightOver → List Comp
comps_of flights = map (λ (f : FlightOver). f.comp) flights

-- the time over and key of a flight with this row, if it is subject to a regulation, and those of the flights with these keys
abbrev pub comp_over : Regulation → Text → Option Row → Option Comp
comp_over r key row = option_map (λ (eto : ℕ). record { eto = eto; key = key }) (option_and_then (over_row r) row)

abbrev pub comps_under : Regulation → List (Text × Row) → List Text → List Comp
comps_under r rows keys = filter_map (λ (key : Text). comp_over r key (at_name rows key)) keys

-- there are those flights now behind the earlier ones, with their rows
pub record AreBehind (r : Regulation) (rows : List (Text × Row)) (keys : List Text) (before now : List FlightOver) : Type 0 where
  pub comps : comps_of now ≡ comps_of before ++ comps_under r rows keys
  pub have_rows : HaveRows rows before → HaveRows rows now
