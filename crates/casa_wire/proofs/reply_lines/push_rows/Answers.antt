use Rattle.casa_wire.specs.LineTexts.{row_data}
use Rattle.casa_wire.proofs.Behind.{list_text, writes_third}
use Rattle.casa_wire.proofs.reply_lines.push_rows.Goals as goal

pub returns : goal.returns
returns c =
    rw (c.in-Some.ensures.cases.0, ← list_text row_data c.in-Some.first.now c.in-Some.rest.now)
    (writes_third c.push_text-2.result c.args.out.now.items c.push_row.new.out.items c.push_more_rows.new.out.items c.push_text-2.new.out.items _ _ _
    c.in_ok-push_row.ensures c.in_ok-push_more_rows.ensures c.push_text-2.ensures)
