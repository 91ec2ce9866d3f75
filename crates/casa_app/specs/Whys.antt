-- to believe: what is said of why a flight waits
use Rattle.std.specs.Prelude.{List, Option, Result}
use Rattle.std.specs.Prelude.{ok_or, option_map}
use Rattle.jiff_core.specs.declared.civil.date.Date.{Date}
use Rattle.casa_filing.specs.Text.{Text}
use Rattle.casa_flight.specs.declared.call.Call.{Call}
use Rattle.casa_inquiry.specs.Exchanges.{exchanges}
use Rattle.casa_inquiry.specs.Why.{why_of}
use Rattle.casa_inquiry.specs.declared.exchanging.PossibleExchange.{PossibleExchange}
use Rattle.casa_inquiry.specs.declared.why.Reasons.{Reasons}
use Rattle.casa_cli.specs.declared.tasks.Format.{Format}
use Rattle.casa_cli.specs.declared.tasks.Format.TheVariants.{Table, Csv, Json}
use Rattle.casa_report.specs.WhyCsv.{why_csv}
use Rattle.casa_report.specs.WhyJson.{why_json}
use Rattle.casa_report.specs.WhyText.{why_text}
use Rattle.casa_session.specs.Played.{state_after_calls}
use Rattle.casa_app.specs.declared.fault.PrintFault.{PrintFault}
use Rattle.casa_app.specs.declared.fault.PrintFault.TheVariants.{NoFlight}

-- why the flight under a key stands as it does after these calls of the sequential allocator; none where there is no such
-- flight
abbrev pub reasons_after : List Call → Text → Option Reasons
reasons_after answered key = why_of (state_after_calls answered) key

-- and with which flights it could then exchange its slot
abbrev pub exchanges_after : List Call → Text → List PossibleExchange
exchanges_after answered key = exchanges (state_after_calls answered) key

-- why a flight waits, in a form: a text with tables, who has the slots that it waits for as comma-separated values, or all of
-- it as JSON; in the first and the last with its exchanges
abbrev pub why_as : Format → Date → List PossibleExchange → Reasons → Text
why_as Table day possible why = why_text day why possible
why_as Csv day possible why = why_csv day why
why_as Json day possible why = why_json day why possible

-- the same after these calls
abbrev pub why_after : Text → Date → Format → List Call → Result Text PrintFault
why_after key day format answered =
    ok_or (option_map (why_as format day (exchanges_after answered key)) (reasons_after answered key)) NoFlight
