-- to believe: a report as comma-separated values: the list of a regulation, or the lists of all
use Rattle.std.specs.Prelude.{List, [], ◌∷◌, Option, None, Some, codes, decimal}
use Rattle.jiff_core.specs.declared.civil.date.Date.{Date}
use Rattle.casa_filing.specs.Text.{Text}
use Rattle.casa_selection.specs.declared.rows.ReportRow.{ReportRow}
use Rattle.casa_report.specs.Csv.{Field, csv, or_empty}
use Rattle.casa_report.specs.Moments.{moment_text}
use Rattle.casa_selection.specs.Rows.{delay_in_list}
use Rattle.casa_report.specs.Table.{kind_text}

abbrev pub row_fields : Date → List (Field ReportRow)
row_fields day =
    record { title = codes "KEY"; value = λ r. r.row.key } ∷
    record { title = codes "ETO"; value = λ r. moment_text day r.row.eto } ∷
    record { title = codes "CTO"; value = λ r. moment_text day r.row.cto } ∷
    record { title = codes "DELAY"; value = λ r. decimal (delay_in_list r.row) } ∷
    record { title = codes "KIND"; value = λ r. kind_text r.row.kind } ∷
    record { title = codes "SLOT"; value = λ r. or_empty decimal r.row.slot } ∷ []

abbrev pub reg_field : Field ReportRow
reg_field = record { title = codes "REG"; value = λ r. r.reg }

-- the fields of a report on this regulation; of one on all of them the regulation stands first
abbrev pub report_fields : Option Text → Date → List (Field ReportRow)
report_fields (Some reg) day = row_fields day
report_fields None day = reg_field ∷ row_fields day

-- a record for each row, in their order
abbrev pub report_csv : Option Text → Date → List ReportRow → Text
report_csv reg day rows = csv (report_fields reg day) rows
