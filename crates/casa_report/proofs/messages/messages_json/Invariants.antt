use Rattle.std.proofs.Common.{◌≡◌, ◌++◌, drop}
use Rattle.std.specs.List.{flat_map}
use Rattle.casa_report.specs.Messages.{message_line, messages_json}
use Rattle.casa_report.proofs.messages.messages_json.Given as goal

abbrev pub invariant-loop-message : goal.invariant-loop-message
invariant-loop-message l = l.text.items ++ flat_map message_line (drop l.message-index l.messages) ≡ messages_json l.messages
