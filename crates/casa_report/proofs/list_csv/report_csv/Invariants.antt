use Rattle.std.proofs.Common.{◌≡◌, ◌++◌, drop}
use Rattle.std.specs.List.{flat_map}
use Rattle.casa_report.specs.Csv.{record_line}
use Rattle.casa_report.specs.ReportCsv.{report_csv, report_fields}
use Rattle.casa_report.proofs.list_csv.report_csv.Given as goal

abbrev pub invariant-loop-row : goal.invariant-loop-row
invariant-loop-row l =
    l.text.items ++ flat_map (record_line (report_fields l.reg l.day)) (drop l.row-index l.rows) ≡ report_csv l.reg l.day l.rows
