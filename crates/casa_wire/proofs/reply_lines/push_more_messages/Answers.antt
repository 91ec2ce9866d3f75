use Rattle.casa_wire.specs.LineTexts.{message_data}
use Rattle.casa_wire.proofs.Behind.{both, cut_after, more_text-next}
use Rattle.casa_wire.proofs.reply_lines.push_more_messages.Goals as goal

pub loop-message-preserved : goal.loop-message-preserved
loop-message-preserved c =
    rw (more_text-next message_data c.args.messages.now c.loop-message.message-index c.message-item.result c.loop-message-test.true c.message-item.is)
    (both c.args.out.now.items c.loop-message.out.items c.push_message.new.out.items _ _ c.loop-message.invariant c.in_ok-push_message.ensures)

pub returns-in_err-push_message : goal.returns-in_err-push_message
returns-in_err-push_message c =
    cut_after c.from_residual.result c.args.out.now.items c.loop-message.out.items c.push_message.new.out.items _ _ c.from_residual.ensures.0 c.loop-message.invariant c.in_err-push_message.ensures
