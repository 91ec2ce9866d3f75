-- to believe: how a flight stands on a day, as far as its slot goes
use Rattle.std.specs.Prelude.{Bool, ◌&&◌, ◌==◌, Option}
use Rattle.std.specs.Option.{option_eq, option_map}
use Rattle.casa_filing.specs.Text.{Text, same_text}
use Rattle.casa_flight.specs.declared.row.Row.{Row}
use Rattle.casa_flight.specs.declared.state.State.{State}
use Rattle.casa_flight.specs.Listing.{ctot_of, delay_of}
use Rattle.casa_flight.specs.State.{row_of}
use Rattle.casa_difference.specs.declared.standing.Standing.{Standing}

-- the regulation that governs a flight, the calculated take-off time that it has by that, and its delay; where nothing
-- governs it, it has no calculated take-off time
abbrev pub standing : State → Text → Row → Standing
standing m key row = record {
  reg = row.governing;
  ctot = option_map (λ (reg : Text). ctot_of m key row) row.governing;
  delay = delay_of m key row;
}

-- how the flight with this key stands; none where there is no such flight
abbrev pub standing_in : State → Text → Option Standing
standing_in m key = option_map (standing m key) (row_of m key)

-- all three are the same
abbrev pub same_standing : Standing → Standing → Bool
same_standing a b = option_eq same_text a.reg b.reg && (option_eq ◌==◌ a.ctot b.ctot && (a.delay == b.delay))
