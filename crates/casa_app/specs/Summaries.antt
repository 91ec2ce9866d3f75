-- to believe: what a summary shows
use Rattle.std.specs.Prelude.{List, Result, Ok}
use Rattle.jiff_core.specs.declared.civil.date.Date.{Date}
use Rattle.casa_filing.specs.Text.{Text}
use Rattle.casa_flight.specs.declared.call.Call.{Call}
use Rattle.casa_flight.specs.declared.reply.ListReply.{ListReply}
use Rattle.casa_inquiry.specs.Summary.{lists_told}
use Rattle.casa_cli.specs.declared.tasks.Format.{Format}
use Rattle.casa_cli.specs.declared.tasks.Format.TheVariants.{Table, Csv, Json}
use Rattle.casa_report.specs.Json.{summary_json}
use Rattle.casa_report.specs.SummaryCsv.{summary_csv}
use Rattle.casa_report.specs.SummaryTable.{summary_text}
use Rattle.casa_session.specs.Played.{state_after_calls}
use Rattle.casa_app.specs.declared.fault.PrintFault.{PrintFault}

-- the list of each open regulation that the sequential allocator tells after these calls
abbrev pub lists_after : List Call → List ListReply
lists_after answered = lists_told (state_after_calls answered)

-- what regulations cost by these lists, in a form: a heading and a table, comma-separated values, or JSON
abbrev pub summary_as : Format → Date → List ListReply → Text
summary_as Table day lists = summary_text day lists
summary_as Csv day lists = summary_csv day lists
summary_as Json day lists = summary_json day lists

-- what they cost by their lists after these calls, in a form
abbrev pub summary_after : Date → Format → List Call → Result Text PrintFault
summary_after day format answered = Ok (summary_as format day (lists_after answered))
