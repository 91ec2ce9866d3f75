-- to believe: what is shown of a regulation's demand and capacity
use Rattle.std.specs.Prelude.{ℕ, List, length, Option, Result}
use Rattle.std.specs.Prelude.{ok_or, option_and_then, option_map}
use Rattle.jiff_core.specs.declared.civil.date.Date.{Date}
use Rattle.casa_grid.specs.declared.period.Period.{Period}
use Rattle.casa_grid.specs.Slots.{slots}
use Rattle.casa_filing.specs.Text.{Text}
use Rattle.casa_flight.specs.declared.call.Call.{Call}
use Rattle.casa_flight.specs.declared.reply.ListReply.{ListReply}
use Rattle.casa_flight.specs.Listing.{Listing, list_of}
use Rattle.casa_inquiry.specs.declared.load.Step.{Step}
use Rattle.casa_inquiry.specs.Load.{steps}
use Rattle.casa_cli.specs.declared.tasks.Format.{Format}
use Rattle.casa_cli.specs.declared.tasks.Format.TheVariants.{Table, Csv, Json}
use Rattle.casa_report.specs.Json.{load_json}
use Rattle.casa_report.specs.LoadCsv.{load_csv}
use Rattle.casa_report.specs.LoadTable.{load_text}
use Rattle.casa_session.specs.Played.{state_after_calls}
use Rattle.casa_app.specs.declared.fault.PrintFault.{PrintFault}
use Rattle.casa_app.specs.declared.fault.PrintFault.TheVariants.{NoRegulation}
use Rattle.casa_app.specs.Reports.{list_after}

-- the periods of a regulation after these calls; none where it is not open
abbrev pub periods_after : List Call → Text → Option (List Period)
periods_after answered reg = option_map (λ (kept : Listing). kept.profile) (list_of (state_after_calls answered) reg)

-- demand and capacity of a regulation, step by step, in a form: a table, which adds up these flights and slots,
-- comma-separated values, or JSON
abbrev pub load_as : Format → Text → Date → List Step → ℕ → ℕ → Text
load_as Table reg day taken flights offered = load_text reg day taken flights offered
load_as Csv reg day taken flights offered = load_csv day taken
load_as Json reg day taken flights offered = load_json day reg taken

-- the text in a form for a regulation with these periods and this list, by steps of so many minutes
abbrev pub load_of : Format → Text → Date → ℕ → List Period → ListReply → Text
load_of format reg day minutes periods list =
    load_as format reg day (steps periods list.rows minutes) (length list.rows) (length (slots periods))

-- the same for the regulation as it is after these calls
abbrev pub load_after : Text → Date → ℕ → Format → List Call → Result Text PrintFault
load_after reg day minutes format answered =
    ok_or (option_and_then (λ periods. option_map (load_of format reg day minutes periods) (list_after answered reg)) (periods_after answered reg)) NoRegulation
