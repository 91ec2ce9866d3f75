-- to believe: the calls that files of traffic make
use Rattle.std.specs.Prelude.{List, ◌++◌, map}
use Rattle.casa_filing.specs.FlightPlan.{FlightPlan}
use Rattle.casa_flight.specs.declared.call.Call.{Call}
use Rattle.casa_flight.specs.declared.call.Call.TheVariants as call
use Rattle.casa_import.specs.declared.regulations.Opening.{Opening}
use Rattle.casa_traffic.specs.declared.making.Made.{Made}

abbrev pub open_call : Opening → Call
open_call o = call.OpenReg o.reg o.loc o.profile

abbrev pub file_call : FlightPlan → Call
file_call plan = call.File plan

-- the regulations open, and then the flights are filed
abbrev pub calls : List Opening → List FlightPlan → List Call
calls openings plans = map open_call openings ++ map file_call plans

abbrev pub calls_of : Made → List Call
calls_of made = calls made.regulations.openings.items made.filings.plans.items
