use Rattle.std.proofs.Common.{◌≡◌, ◌++◌, map, take}
use Rattle.casa_flight.specs.declared.reply.Message.{Message}
use Rattle.casa_selection.proofs.messages.push_caused.Given as goal

abbrev pub invariant-loop-message : goal.invariant-loop-message
invariant-loop-message l =
    l.messages.items ≡ l.fn.messages.items ++ map (λ (m : Message). record { call = l.number; message = m }) (take l.message-index l.message-items)
