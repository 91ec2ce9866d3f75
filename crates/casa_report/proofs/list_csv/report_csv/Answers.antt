use Rattle.std.proofs.Common.{◌∙◌, ◌++◌, ◌+◌, ap, drop}
use Rattle.std.specs.List.{flat_map}
use Rattle.casa_report.specs.Csv.{record_line}
use Rattle.casa_report.specs.ReportCsv.{report_csv, report_fields}
use Rattle.casa_report.proofs.Lines.{next_line}
use Rattle.casa_report.proofs.list_csv.report_csv.Goals as goal

pub loop-row-preserved : goal.loop-row-preserved
loop-row-preserved c =
    let rows = c.args.rows.now in
    let line = record_line (report_fields c.args.reg.now c.args.day) in
    let i = c.loop-row.row-index in
    ap (λ t. t ++ flat_map line (drop (i + 1) rows)) c.in_ok-push_row.ensures
    ∙ next_line line rows i c.row-item.result c.loop-row.text.items (report_csv c.args.reg.now c.args.day rows) c.loop-row-test.true c.row-item.is c.loop-row.invariant
