-- to believe: a report as a table: the list of a regulation, or the lists of all
use Rattle.std.specs.Prelude.{List, [], ◌∷◌, ◌++◌, Option, None, Some, codes, decimal}
use Rattle.std.specs.List.{flat_map}
use Rattle.jiff_core.specs.declared.civil.date.Date.{Date}
use Rattle.casa_time.specs.Hhmm.{hhmm}
use Rattle.casa_filing.specs.Text.{Text}
use Rattle.casa_flight.specs.declared.reply.Kind.{Kind}
use Rattle.casa_flight.specs.declared.reply.Kind.TheVariants.{Pre, Issued, Forced}
use Rattle.casa_selection.specs.declared.rows.ReportRow.{ReportRow}
use Rattle.casa_report.specs.Columns.{Column, left, number_text, right, shown_line, titles}
use Rattle.casa_report.specs.Heading.{heading_line}
use Rattle.casa_report.specs.SummaryTable.{day_line}
use Rattle.casa_selection.specs.Rows.{delay_in_list}

abbrev pub kind_text : Kind → Text
kind_text Pre = codes "pre"
kind_text Issued = codes "issued"
kind_text Forced = codes "forced"

abbrev pub row_columns : List (Column ReportRow)
row_columns =
    record { title = codes "KEY"; place = left 10; shown = λ r. r.row.key } ∷
    record { title = codes "ETO"; place = left 4; shown = λ r. hhmm r.row.eto } ∷
    record { title = codes "CTO"; place = left 4; shown = λ r. hhmm r.row.cto } ∷
    record { title = codes "DELAY"; place = right 6; shown = λ r. decimal (delay_in_list r.row) } ∷
    record { title = codes "KIND"; place = left 6; shown = λ r. kind_text r.row.kind } ∷
    record { title = codes "SLOT"; place = right 5; shown = λ r. number_text r.row.slot } ∷ []

abbrev pub reg_column : Column ReportRow
reg_column = record { title = codes "REG"; place = left 10; shown = λ r. r.reg }

-- the columns of a report on this regulation; of one on all of them the regulation stands first
abbrev pub report_columns : Option Text → List (Column ReportRow)
report_columns (Some reg) = row_columns
report_columns None = reg_column ∷ row_columns

-- the line above the table: the regulation, if it is on one, and the day
abbrev pub report_heading : Option Text → Date → Text
report_heading (Some reg) day = heading_line reg day
report_heading None day = day_line day

abbrev pub row_line : Option Text → ReportRow → Text
row_line reg row = shown_line (report_columns reg) row

-- the titles and a line for each row
abbrev pub report_table : Option Text → List ReportRow → Text
report_table reg rows = titles (report_columns reg) ++ flat_map (row_line reg) rows

-- the heading, and below it the table
abbrev pub report_text : Option Text → Date → List ReportRow → Text
report_text reg day rows = report_heading reg day ++ report_table reg rows
