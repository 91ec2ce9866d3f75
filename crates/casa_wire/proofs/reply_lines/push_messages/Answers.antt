use Rattle.casa_wire.specs.LineTexts.{message_data}
use Rattle.casa_wire.proofs.Behind.{list_text, writes_third}
use Rattle.casa_wire.proofs.reply_lines.push_messages.Goals as goal

pub returns : goal.returns
returns c =
    rw (c.in-Some.ensures.cases.0, ← list_text message_data c.in-Some.first.now c.in-Some.rest.now)
    (writes_third c.push_text-2.result c.args.out.now.items c.push_message.new.out.items c.push_more_messages.new.out.items c.push_text-2.new.out.items _ _ _
    c.in_ok-push_message.ensures c.in_ok-push_more_messages.ensures c.push_text-2.ensures)
