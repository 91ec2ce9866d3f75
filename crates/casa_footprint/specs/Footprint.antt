-- to believe: which items a call reads and writes
use Rattle.std.specs.Prelude.{List, Bool, true, false, ◌&&◌, ◌||◌, is_some}
use Rattle.std.specs.Option.{option_map_or}
use Rattle.std.specs.List.{list_any}
use Rattle.casa_grid.specs.declared.period.Period.{Period}
use Rattle.casa_flight.specs.declared.call.Call.{Call}
use Rattle.casa_flight.specs.declared.call.Call.TheVariants.{File, Amend, Cancel, Revise, Exempt, OpenReg, CloseReg, Rates, Tick, Show, List as ListOf, Swap}
use Rattle.casa_filing.specs.declared.regulation.Regulation.{Regulation}
use Rattle.casa_filing.specs.declared.regulation.Measure.{Measure}
use Rattle.casa_flight.specs.declared.row.Row.{Row}
use Rattle.casa_flight.specs.declared.row.Stance.{Stance}
use Rattle.casa_flight.specs.declared.row.Stance.TheVariants.{Competing, Issued, Forced}
use Rattle.casa_flight.specs.declared.state.State.{State}
use Rattle.casa_filing.specs.Text.{Text, same_text}
use Rattle.casa_filing.specs.FlightPlan.{FlightPlan}
use Rattle.casa_filing.specs.Subject.{regulation, subject}
use Rattle.casa_flight.specs.State.{row_of, measure_of, is_governed_by, ungoverned}
use Rattle.casa_flight.specs.Listing.{Listing, list_of}
use Rattle.casa_flight.specs.Entry.{situation, row_after_entry, is_to_issue}
use Rattle.casa_flight.specs.Steps.{Step, refused, leads, is_revised, may_compete, extends, step}
use Rattle.casa_footprint.specs.Items.{ItemName, the_clock, the_catalogue, a_row, a_list}

-- whether a plan is subject to the regulation that is open under an identifier
abbrev pub is_subject : State → FlightPlan → Text → Bool
is_subject m plan id = option_map_or (λ (measure : Measure). is_some (subject plan (regulation id measure))) (measure_of m id) false

-- whether a list is one of a flight's: that of an open regulation to which the flight is subject by the plan that it has
abbrev pub is_list_of : State → Text → Text → Bool
is_list_of m key id = option_map_or (λ (row : Row). is_subject m row.plan id) (row_of m key) false

-- whether a regulation governs the flight
abbrev pub governs : State → Text → Text → Bool
governs m id key = option_map_or (is_governed_by id) (row_of m key) false

-- whether a flight stands forced
abbrev pub is_forced : Stance → Bool
is_forced (Competing eto) = false
is_forced (Issued eto cto) = false
is_forced (Forced eto) = true

-- whether a flight of this list passes a test
abbrev pub has_flight : State → Text → (Text → Stance → Bool) → Bool
has_flight m id test =
    option_map_or (λ (l : Listing). list_any (λ (e : Text × Stance). test e.0 e.1) l.flights) (list_of m id) false

-- whether the flight is forced in this list
abbrev pub is_forced_in : State → Text → Text → Bool
is_forced_in m id key = has_flight m id (λ k s. is_forced s && same_text key k)

-- whether a flight that is forced in this list is governed by that other regulation
abbrev pub governs_forced : State → Text → Text → Bool
governs_forced m id other = has_flight m id (λ k s. is_forced s && governs m other k)

-- what a call reads, whether it is accepted or not
abbrev pub reads : State → Call → ItemName → Bool
-- File: the clock, the catalogue, the row, the lists of the plan
reads m (File plan) (a_row key) = same_text plan.key key
reads m (File plan) (a_list id) = is_subject m plan id
reads m (File plan) _ = true
-- Amend: the clock, the catalogue, the row, the lists of the old plan and of the new one
reads m (Amend plan) (a_row key) = same_text plan.key key
reads m (Amend plan) (a_list id) = is_list_of m plan.key id || is_subject m plan id
reads m (Amend plan) _ = true
-- Cancel and Exempt: the catalogue, the row, the flight's lists
reads m (Cancel key) the_clock = false
reads m (Cancel key) the_catalogue = true
reads m (Cancel key) (a_row other) = same_text key other
reads m (Cancel key) (a_list id) = is_list_of m key id
reads m (Exempt key) the_clock = false
reads m (Exempt key) the_catalogue = true
reads m (Exempt key) (a_row other) = same_text key other
reads m (Exempt key) (a_list id) = is_list_of m key id
-- Revise: the clock, the catalogue, the row, the flight's lists
reads m (Revise key) (a_row other) = same_text key other
reads m (Revise key) (a_list id) = is_list_of m key id
reads m (Revise key) _ = true
-- OpenReg, CloseReg and Tick: all items, the absence of every other key too
reads m (OpenReg id loc profile) _ = true
reads m (CloseReg id) _ = true
reads m (Tick at) _ = true
-- Rates: the catalogue, the list; with a later end all items
reads m (Rates id profile) the_clock = extends m id profile
reads m (Rates id profile) the_catalogue = true
reads m (Rates id profile) (a_row key) = extends m id profile
reads m (Rates id profile) (a_list other) = same_text id other || extends m id profile
-- Show: the row, its governing list if there is one
reads m (Show key) (a_row other) = same_text key other
reads m (Show key) (a_list id) = governs m id key
reads m (Show key) _ = false
-- List: the catalogue, the list, the rows of the flights forced there, the lists that govern these
reads m (ListOf id) the_clock = false
reads m (ListOf id) the_catalogue = true
reads m (ListOf id) (a_row key) = is_forced_in m id key
reads m (ListOf id) (a_list other) = same_text id other || governs_forced m id other
-- Swap: the clock, both rows, the lists that govern these
reads m (Swap key other) the_clock = true
reads m (Swap key other) the_catalogue = false
reads m (Swap key other) (a_row flight) = same_text key flight || same_text other flight
reads m (Swap key other) (a_list id) = governs m id key || governs m id other

-- whether Revise gives the flight what it would get: always before it is issued, then only if the new slot holds
abbrev pub holds : State → Text → Bool
holds m key =
    option_map_or (λ (row : Row). is_revised m key row (row_after_entry (situation m) key (ungoverned row))) (row_of m key) false

-- whether a flight enters as this regulation opens or gets a later end
abbrev pub enters : State → Regulation → Row → Bool
enters m r row = may_compete m.clock row && is_some (subject row.plan r)

abbrev pub enters_at : State → Regulation → Text → Bool
enters_at m r key = option_map_or (enters m r) (row_of m key) false

-- whether a flight enters as the regulation under an identifier gets this profile
abbrev pub enters_with : State → Text → List Period → Text → Bool
enters_with m id profile key =
    option_map_or (λ (measure : Measure). enters_at m (regulation id (record measure { profile = profile })) key)
    (measure_of m id) false

-- what a call writes if it is accepted
abbrev pub would_write : State → Call → ItemName → Bool
-- File: the row, the lists of the plan
would_write m (File plan) (a_row key) = same_text plan.key key
would_write m (File plan) (a_list id) = is_subject m plan id
would_write m (File plan) _ = false
-- Amend: the row, the lists of the old plan and of the new one
would_write m (Amend plan) (a_row key) = same_text plan.key key
would_write m (Amend plan) (a_list id) = is_list_of m plan.key id || is_subject m plan id
would_write m (Amend plan) _ = false
-- Cancel and Exempt: the row, the flight's lists
would_write m (Cancel key) (a_row other) = same_text key other
would_write m (Cancel key) (a_list id) = is_list_of m key id
would_write m (Cancel key) _ = false
would_write m (Exempt key) (a_row other) = same_text key other
would_write m (Exempt key) (a_list id) = is_list_of m key id
would_write m (Exempt key) _ = false
-- Revise: the row and the flight's lists if the new slot holds, and else nothing
would_write m (Revise key) (a_row other) = holds m key && same_text key other
would_write m (Revise key) (a_list id) = holds m key && is_list_of m key id
would_write m (Revise key) _ = false
-- OpenReg: the catalogue, the new list, the rows of the flights that enter
would_write m (OpenReg id loc profile) the_clock = false
would_write m (OpenReg id loc profile) the_catalogue = true
would_write m (OpenReg id loc profile) (a_row key) =
    enters_at m (regulation id (record { loc = loc; profile = profile })) key
would_write m (OpenReg id loc profile) (a_list other) = same_text id other
-- CloseReg: the catalogue, the list, the rows that it governed, each other list to which one of these is subject
would_write m (CloseReg id) the_clock = false
would_write m (CloseReg id) the_catalogue = true
would_write m (CloseReg id) (a_row key) = governs m id key
would_write m (CloseReg id) (a_list other) =
    same_text id other || list_any (λ (e : Text × Row). is_governed_by id e.1 && is_subject m e.1.plan other) m.rows
-- Rates: the list; with a later end also the catalogue, the rows of the flights that enter
would_write m (Rates id profile) the_clock = false
would_write m (Rates id profile) the_catalogue = extends m id profile
would_write m (Rates id profile) (a_row key) = extends m id profile && enters_with m id profile key
would_write m (Rates id profile) (a_list other) = same_text id other
-- Tick: the clock, also where it is equal, the rows of the flights that become issued, their governing lists
would_write m (Tick at) the_clock = true
would_write m (Tick at) the_catalogue = false
would_write m (Tick at) (a_row key) = option_map_or (is_to_issue at) (row_of m key) false
would_write m (Tick at) (a_list id) = list_any (λ (e : Text × Row). is_to_issue at e.1 && is_governed_by id e.1) m.rows
-- Show and List: nothing
would_write m (Show key) _ = false
would_write m (ListOf id) _ = false
-- Swap: both rows and their list
would_write m (Swap key other) (a_row flight) = same_text key flight || same_text other flight
would_write m (Swap key other) (a_list id) = governs m id key
would_write m (Swap key other) _ = false

-- whether a call is not refused
abbrev pub is_accepted : Step → Bool
is_accepted (refused r) = false
is_accepted (leads n) = true

-- what a call writes: nothing if it is refused
abbrev pub writes : State → Call → ItemName → Bool
writes m call i = is_accepted (step m call) && would_write m call i
