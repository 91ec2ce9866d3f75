use Rattle.std.proofs.Common.{◌≡◌, ◌++◌, drop}
use Rattle.std.specs.Prelude.{map}
use Rattle.serde_json.specs.View.{view}
use Rattle.casa_wire.specs.LineTexts.{message_data}
use Rattle.casa_wire.proofs.reply_values.messages_value.Given as goal

abbrev pub invariant-loop-message : goal.invariant-loop-message
invariant-loop-message l =
    map view l.items.items ++ map message_data (drop l.message-index l.messages) ≡ map message_data l.messages
