use Rattle.std.proofs.Common.{◌∙◌, ◌++◌, ◌+◌, ap, drop}
use Rattle.std.specs.List.{flat_map}
use Rattle.casa_report.specs.Table.{report_table, row_line}
use Rattle.casa_report.proofs.Lines.{next_line}
use Rattle.casa_report.proofs.table.report_table.Goals as goal

pub loop-row-preserved : goal.loop-row-preserved
loop-row-preserved c =
    let rows = c.args.rows.now in
    let reg = c.args.reg.now in
    let i = c.loop-row.row-index in
    let row = c.row-item.result in
    let text = c.loop-row.text.items in
    ap (λ t. t ++ flat_map (row_line reg) (drop (i + 1) rows)) (c.in_ok-extend_from_slice-2.ensures.items ∙ ap (λ t. text ++ t) (c.as_slice.ensures.value ∙ c.row_line.ensures))
    ∙ next_line (row_line reg) rows i row text (c.args.text.now.items ++ report_table reg rows) c.loop-row-test.true c.row-item.is c.loop-row.invariant
