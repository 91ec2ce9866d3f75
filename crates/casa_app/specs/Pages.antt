-- to believe: what a page of the day shows
use Rattle.std.specs.Prelude.{List, length, map, Option, option_map, Result, Ok}
use Rattle.jiff_core.specs.declared.civil.date.Date.{Date}
use Rattle.casa_filing.specs.Text.{Text}
use Rattle.casa_flight.specs.declared.call.Call.{Call}
use Rattle.casa_flight.specs.declared.reply.ListReply.{ListReply}
use Rattle.casa_flight.specs.declared.row.Row.{Row}
use Rattle.casa_flight.specs.declared.state.State.{State}
use Rattle.casa_flight.specs.Listing.{Listing, list_of}
use Rattle.casa_flight.specs.Replies.{flight_reply}
use Rattle.casa_flight.specs.State.{empty}
use Rattle.casa_html.specs.declared.page.TheConstants.{PAGE}
use Rattle.casa_html.specs.Recorded.{recorded_page}
use Rattle.casa_look.specs.declared.day.DayRecord.{DayRecord}
use Rattle.casa_look.specs.declared.day.PlannedFlight.{PlannedFlight}
use Rattle.casa_look.specs.declared.state.OpenRegulation.{OpenRegulation}
use Rattle.casa_look.specs.DayText.{day_text}
use Rattle.casa_look.specs.StateText.{open_regulation, open_regulations}
use Rattle.casa_session.specs.Played.{sequential_history, state_after_calls}
use Rattle.casa_app.specs.declared.fault.PrintFault.{PrintFault}
use Rattle.casa_app.specs.Summaries.{lists_after}

-- a flight as `show` answers it, with its plan
abbrev pub planned_flight : State → Text → Row → PlannedFlight
planned_flight m key row = record { plan = row.plan; flight = flight_reply m key row }

-- the flights of a state, in the order of their keys
abbrev pub planned_flights : State → List PlannedFlight
planned_flights m = map (λ (e : Text × Row). planned_flight m e.0 e.1) m.rows

-- what is kept of the day after these calls: the state, its lists and flights, and the entries of all calls
abbrev pub day_after : Date → List Call → DayRecord
day_after day answered = record {
  day = day;
  calls = length answered;
  clock = (state_after_calls answered).clock;
  regulations = open_regulations (state_after_calls answered);
  lists = lists_after answered;
  flights = planned_flights (state_after_calls answered);
  position = 0;
  entries = sequential_history empty answered;
}

-- the page with the day behind it
abbrev pub page_after : Date → List Call → Result Text PrintFault
page_after day answered = Ok (recorded_page PAGE.now (day_text (day_after day answered)))

-- inner: the regulation of a list that is told, with what it costs; none where it is not open
abbrev pub opened : State → ListReply → Option OpenRegulation
opened m list =
    option_map (λ (kept : Listing). open_regulation list.reg (record { loc = list.loc; profile = kept.profile }) list) (list_of m list.reg)
