-- to believe: the state, and its flights
use Rattle.std.specs.Prelude.{List, [], map, Bool, false, ◌||◌, Option, None}
use Rattle.std.specs.Option.{option_map_or}
use Rattle.casa_filing.specs.declared.regulation.Regulation.{Regulation}
use Rattle.casa_filing.specs.declared.regulation.Measure.{Measure}
use Rattle.casa_flight.specs.declared.row.Row.{Row}
use Rattle.casa_flight.specs.declared.state.State.{State}
use Rattle.casa_filing.specs.Text.{Text, same_text, at_name, put}
use Rattle.casa_filing.specs.FlightPlan.{is_exempting}
use Rattle.casa_filing.specs.Subject.{regulation}

-- at first the clock is at midnight, and there is no regulation and no flight
abbrev pub empty : State
empty = record { clock = 0; regs = []; rows = [] }

-- the flight filed under a key
abbrev pub row_of : State → Text → Option Row
row_of m key = at_name m.rows key

-- the measure of the regulation open under an identifier
abbrev pub measure_of : State → Text → Option Measure
measure_of m id = at_name m.regs id

abbrev pub with_row : State → Text → Row → State
with_row m key row = record m { rows = put m.rows key row }

-- the open regulations, in the order of their identifiers
abbrev pub catalogue : State → List Regulation
catalogue m = map (λ (e : Text × Measure). regulation e.0 e.1) m.regs

-- exempt by its plan's indicator or by a desk's mark (profile)
abbrev pub is_exempt : Row → Bool
is_exempt row = row.marked || is_exempting row.plan.sts

-- whether this regulation governs the flight
abbrev pub is_governed_by : Text → Row → Bool
is_governed_by id row = option_map_or (same_text id) row.governing false

-- the flight with neither governing regulation nor issue
abbrev pub ungoverned : Row → Row
ungoverned row = record row { governing = None; issued = None }
