use Rattle.std.proofs.Common.{◌∙◌, ◌++◌, ◌+◌, ap, drop}
use Rattle.std.specs.List.{flat_map}
use Rattle.casa_report.specs.Messages.{message_line, messages_json}
use Rattle.casa_report.proofs.Lines.{next_line}
use Rattle.casa_report.proofs.messages.messages_json.Goals as goal

pub loop-message-preserved : goal.loop-message-preserved
loop-message-preserved c =
    let messages = c.args.messages.now in
    let i = c.loop-message.message-index in
    ap (λ t. t ++ flat_map message_line (drop (i + 1) messages)) c.in_ok-push_line.ensures
    ∙ next_line message_line messages i c.message-item.result c.loop-message.text.items (messages_json messages) c.loop-message-test.true c.message-item.is c.loop-message.invariant
