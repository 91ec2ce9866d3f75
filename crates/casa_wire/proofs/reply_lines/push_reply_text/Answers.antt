use Rattle.casa_wire.proofs.Behind.{answer_text, writes_third}
use Rattle.casa_wire.proofs.reply_lines.push_reply_text.Goals as goal

pub returns-in_ok-push_messages-in-Answered : goal.returns-in_ok-push_messages-in-Answered
returns-in_ok-push_messages-in-Answered c =
    rw (c.in-Answered.is, ← answer_text c.in-Answered.answer c.in-Answered.messages c.args.position)
    (writes_third c.push_parts.result c.args.out.now.items c.push_answer_opening.new.out.items c.push_messages.new.out.items c.push_parts.new.out.items _ _ _
    c.in_ok-push_answer_opening-in-Answered.ensures (rw c.as_slice.ensures at c.in_ok-push_messages-in-Answered.ensures) c.push_parts.ensures)
