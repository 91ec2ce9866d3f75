use Rattle.casa_wire.specs.LineTexts.{row_data}
use Rattle.casa_wire.proofs.Behind.{both, cut_after, more_text-next}
use Rattle.casa_wire.proofs.reply_lines.push_more_rows.Goals as goal

pub loop-row-preserved : goal.loop-row-preserved
loop-row-preserved c =
    rw (more_text-next row_data c.args.rows.now c.loop-row.row-index c.row-item.result c.loop-row-test.true c.row-item.is)
    (both c.args.out.now.items c.loop-row.out.items c.push_row.new.out.items _ _ c.loop-row.invariant c.in_ok-push_row.ensures)

pub returns-in_err-push_row : goal.returns-in_err-push_row
returns-in_err-push_row c =
    cut_after c.from_residual.result c.args.out.now.items c.loop-row.out.items c.push_row.new.out.items _ _ c.from_residual.ensures.0 c.loop-row.invariant c.in_err-push_row.ensures
