use Rattle.casa_wire.proofs.Behind.{list_reply_text, writes_third}
use Rattle.casa_wire.proofs.reply_lines.push_list.Goals as goal

pub returns : goal.returns
returns c =
    rw (← list_reply_text c.args.list.now)
    (writes_third c.push_parts.result c.args.out.now.items c.push_list_opening.new.out.items c.push_rows.new.out.items c.push_parts.new.out.items _ _ _
    c.in_ok-push_list_opening.ensures (rw c.as_slice.ensures at c.in_ok-push_rows.ensures) (rw c.secs.ensures.value at c.push_parts.ensures))
