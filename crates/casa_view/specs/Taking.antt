-- inner contracts: which versions a view takes
use Rattle.std.specs.Prelude.{◌≡◌, ℕ, List, Bool, true, false, ◌||◌, ◌&&◌, nat_lt, Option, None, Some, if◌then◌else◌}
use Rattle.std.specs.Option.{option_map, option_map_or, option_and_then}
use Rattle.std.specs.List.{list_any}
use Rattle.casa_grid.specs.declared.period.Period.{Period}
use Rattle.casa_grid.specs.Profile.{end_of}
use Rattle.casa_flight.specs.declared.call.Call.{Call}
use Rattle.casa_filing.specs.declared.regulation.Regulation.{Regulation}
use Rattle.casa_flight.specs.declared.row.Row.{Row}
use Rattle.casa_flight.specs.declared.row.Stance.{Stance}
use Rattle.casa_filing.specs.Text.{Text, at_name, same_text}
use Rattle.casa_filing.specs.FlightPlan.{FlightPlan}
use Rattle.casa_flight.specs.Listing.{Listing}
use Rattle.casa_footprint.specs.Items.{ItemName, the_clock, the_catalogue, a_row, a_list}
use Rattle.casa_footprint.specs.Finding.{by_id}
use Rattle.casa_footprint.specs.Footprint.{reads, is_forced}
use Rattle.casa_item.specs.declared.item.Item.{Item}
use Rattle.casa_view.specs.declared.view.View.{View}
use Rattle.casa_item.specs.Crossed.{meets}
use Rattle.casa_item.specs.Versions.{Versions, row_of, list_at, shown_state}
use Rattle.casa_view.specs.BoardState.{IsGoodBoard, board_state}
use Rattle.casa_view.specs.View.{IsTaken}

-- noted is what the entries have under the names that pass the test, and nothing under others
abbrev pub Sees : {V : Type 0} → List (Text × V) → (Text → Bool) → List (Text × Option V) → Type 0
Sees es test noted = (q : Text) → at_name noted q ≡ (if test q then Some (at_name es q) else None)

-- the names that pass the test are noted too
abbrev pub SeesAlso : {V : Type 0} → List (Text × V) → (Text → Bool)
    → List (Text × Option V) → List (Text × Option V) → Type 0
SeesAlso es test before after = (t : Text → Bool) → Sees es t before → Sees es (λ q. test q || t q) after

-- whether a plan meets one of these regulations, if there is a plan
abbrev pub meets_if : List Regulation → Option FlightPlan → Text → Bool
meets_if regs None id = false
meets_if regs (Some plan) id = meets regs plan id

-- a test of names by its four parts
abbrev pub name_test : Bool → Bool → (Text → Bool) → (Text → Bool) → ItemName → Bool
name_test clock catalogue rows lists the_clock = clock
name_test clock catalogue rows lists the_catalogue = catalogue
name_test clock catalogue rows lists (a_row key) = rows key
name_test clock catalogue rows lists (a_list id) = lists id

-- what is noted of a flight's lists: those of the plan that it has and of a new one
abbrev pub meets_either : List Regulation → Option FlightPlan → Option FlightPlan → Text → Bool
meets_either regs old new id = meets_if regs old id || meets_if regs new id

-- whether this identifier is the given one, if one is given
abbrev pub is_of : Option Text → Text → Bool
is_of id q = option_map_or (λ (i : Text). same_text i q) id false

-- the row under a key, by its version, its plan, and the regulation that governs the flight
abbrev pub row_at : {V : Type 0} → (V → Item) → Versions V → Text → Option Row
row_at {V} item_of vs key = option_and_then (λ (v : V). row_of (item_of v)) (at_name vs.rows key)

abbrev pub plan_at : {V : Type 0} → (V → Item) → Versions V → Text → Option FlightPlan
plan_at item_of vs key = option_map (λ (row : Row). row.plan) (row_at item_of vs key)

abbrev pub governing_at : {V : Type 0} → (V → Item) → Versions V → Text → Option Text
governing_at item_of vs key = option_and_then (λ (row : Row). row.governing) (row_at item_of vs key)

-- whether a flight that is forced in this list passes a test, if there is a list
abbrev pub has_forced : (Text → Bool) → Option Listing → Bool
has_forced test list =
    option_map_or (λ (l : Listing). list_any (λ (e : Text × Stance). is_forced e.1 && test e.0) l.flights) list false

-- what is noted of the flights that are forced in the list of a regulation: their rows, and the lists that govern them
abbrev pub forced_at : {V : Type 0} → (V → Item) → Versions V → Text → Text → Bool
forced_at item_of vs id key = has_forced (λ k. same_text k key) (list_at item_of vs id)

abbrev pub governs_forced_at : {V : Type 0} → (V → Item) → Versions V → Text → Text → Bool
governs_forced_at item_of vs id other =
    has_forced (λ k. is_of (governing_at item_of vs k) other) (list_at item_of vs id)

-- whether a profile ends later than the regulation that a catalogue has under an identifier
abbrev pub extends_in : List Regulation → Text → List Period → Bool
extends_in regs id profile =
    option_map_or (λ (r : Regulation). nat_lt r.end (end_of profile)) (at_name (by_id regs) id) false

-- what new rates read, with a later end or not: all items, or the catalogue and the list
abbrev pub read_by_rates : Text → Bool → ItemName → Bool
read_by_rates id later = name_test later true (λ q. later) (λ q. same_text id q || later)

-- a view with the versions of what the call reads on a board that stands well;
-- its versions are present ones in any case
abbrev pub IsRead : {V : Type 0} → (V → Item) → (V → ℕ) → Versions V → Call → View V → Type 0
IsRead item_of stamp_of vs call v =
    (test : ItemName → Bool) × IsTaken vs test v
    × (IsGoodBoard (board_state item_of stamp_of vs) → (i : ItemName) → test i ≡ reads (shown_state item_of vs) call i)
