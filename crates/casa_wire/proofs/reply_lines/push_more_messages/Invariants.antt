use Rattle.std.proofs.Common.{◌≡◌, ◌++◌, take}
use Rattle.casa_wire.specs.LineTexts.{message_data}
use Rattle.casa_wire.specs.Parts.{more_text}
use Rattle.casa_wire.proofs.reply_lines.push_more_messages.Given as goal

abbrev pub invariant-loop-message : goal.invariant-loop-message
invariant-loop-message l = l.out.items ≡ l.fn.out.items ++ more_text message_data (take l.message-index l.messages)
