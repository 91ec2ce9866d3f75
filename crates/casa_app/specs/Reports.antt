-- to believe: what a report shows
use Rattle.std.specs.Prelude.{ℕ, List, take, Bool, true, false, Option, None, Some, Result, Ok, if◌then◌else◌}
use Rattle.std.specs.Prelude.{ok_or, option_map}
use Rattle.jiff_core.specs.declared.civil.date.Date.{Date}
use Rattle.casa_filing.specs.Text.{Text}
use Rattle.casa_flight.specs.declared.call.Call.{Call}
use Rattle.casa_flight.specs.declared.call.Call.TheVariants.{List as ListOf}
use Rattle.casa_flight.specs.declared.reply.ListReply.{ListReply}
use Rattle.casa_flight.specs.Replies.{reply}
use Rattle.casa_cli.specs.declared.tasks.Format.{Format}
use Rattle.casa_cli.specs.declared.tasks.Format.TheVariants.{Table, Csv, Json}
use Rattle.casa_cli.specs.declared.tasks.Sort.{Sort}
use Rattle.casa_cli.specs.declared.tasks.Sort.TheVariants.{List as AsListed, Delay}
use Rattle.casa_selection.specs.declared.rows.ReportRow.{ReportRow}
use Rattle.casa_report.specs.Json.{report_json, reports_json, rows_json}
use Rattle.casa_report.specs.ReportCsv.{report_csv}
use Rattle.casa_selection.specs.Rows.{by_delay, rows_in, rows_in_all}
use Rattle.casa_report.specs.Table.{report_text}
use Rattle.casa_session.specs.Played.{state_after_calls}
use Rattle.casa_app.specs.declared.fault.PrintFault.{PrintFault}
use Rattle.casa_app.specs.declared.fault.PrintFault.TheVariants.{NoRegulation}
use Rattle.casa_app.specs.declared.reports.ReportOf.{ReportOf}
use Rattle.casa_app.specs.Listed.{list_in}
use Rattle.casa_app.specs.Summaries.{lists_after}

-- the list that the sequential allocator tells of a regulation after these calls; none where the regulation is not open
abbrev pub list_after : List Call → Text → Option ListReply
list_after answered reg = list_in (reply (state_after_calls answered) (ListOf reg))

-- rows in an order: as they stand in their lists, or the longest delay first
abbrev pub sorted_rows : Sort → List ReportRow → List ReportRow
sorted_rows AsListed rows = rows
sorted_rows Delay rows = by_delay rows

-- the first so many rows, or all
abbrev pub first_rows : Option ℕ → List ReportRow → List ReportRow
first_rows None rows = rows
first_rows (Some count) rows = take count rows

-- those of these rows that are shown
abbrev pub shown_rows : ReportOf → List ReportRow → List ReportRow
shown_rows asked rows = first_rows asked.top (sorted_rows asked.sort rows)

-- rows in a form: a heading and a table, comma-separated values, or JSON
abbrev pub rows_as : Format → Option Text → Date → List ReportRow → Text
rows_as Table reg day rows = report_text reg day rows
rows_as Csv reg day rows = report_csv reg day rows
rows_as Json reg day rows = rows_json day rows

abbrev pub rows_report : ReportOf → List ReportRow → Text
rows_report asked rows = rows_as asked.format asked.reg asked.day (shown_rows asked rows)

-- lists are told whole, as `list` answers them, where JSON is asked for and no other order and no number of rows
abbrev pub is_whole : Format → Sort → Option ℕ → Bool
is_whole Json AsListed None = true
is_whole format sort top = false

-- the report on a regulation with this list
abbrev pub list_report : ReportOf → Text → ListReply → Text
list_report asked reg list =
    if is_whole asked.format asked.sort asked.top then report_json asked.day reg list else rows_report asked (rows_in list)

-- the report on all open regulations, which have these lists
abbrev pub lists_report : ReportOf → List ListReply → Text
lists_report asked lists =
    if is_whole asked.format asked.sort asked.top then reports_json asked.day lists else rows_report asked (rows_in_all lists)

-- the report on a regulation, or on all, after these calls
abbrev pub report_on : Option Text → ReportOf → List Call → Result Text PrintFault
report_on (Some reg) asked answered = ok_or (option_map (list_report asked reg) (list_after answered reg)) NoRegulation
report_on None asked answered = Ok (lists_report asked (lists_after answered))

abbrev pub report_after : ReportOf → List Call → Result Text PrintFault
report_after asked answered = report_on asked.reg asked answered
