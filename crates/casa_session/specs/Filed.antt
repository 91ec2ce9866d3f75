-- inner contracts: the flights that calls file
use Rattle.std.specs.Prelude.{Option, None, Some, option_and_then, option_map}
use Rattle.casa_filing.specs.Text.{Text}
use Rattle.casa_flight.specs.declared.call.Call.{Call}
use Rattle.casa_flight.specs.declared.call.Call.TheVariants.{File}
use Rattle.casa_flight.specs.declared.row.Row.{Row}
use Rattle.casa_flight.specs.declared.state.State.{State}
use Rattle.casa_flight.specs.State.{row_of}

-- the key under which a call files a flight, if it does
abbrev pub key_filed : Call → Option Text
key_filed (File plan) = Some plan.key
key_filed call = None

-- that flight, as it stands in a state
abbrev pub filed_by : State → Call → Option (Text × Row)
filed_by m call = option_and_then (λ (key : Text). option_map (λ (row : Row). (key, row)) (row_of m key)) (key_filed call)
