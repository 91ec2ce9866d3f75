-- to believe: the messages that calls caused
use Rattle.std.specs.Prelude.{ℕ, ◌+◌, List, [], ◌∷◌, ◌++◌, map}
use Rattle.casa_flight.specs.declared.call.Call.{Call}
use Rattle.casa_flight.specs.declared.reply.Message.{Message}
use Rattle.casa_flight.specs.declared.reply.Reply.{Reply}
use Rattle.casa_flight.specs.declared.reply.Reply.TheVariants.{Refused, Answered}
use Rattle.casa_history.specs.declared.entry.Entry.{Entry}
use Rattle.casa_selection.specs.declared.messages.CausedMessage.{CausedMessage}

-- the messages of a reply; a refused call has none
abbrev pub messages_in : Reply → List Message
messages_in (Refused refusal) = []
messages_in (Answered answer messages) = messages

-- the messages that the call with this number caused
abbrev pub caused_by : ℕ → Entry Call Reply → List CausedMessage
caused_by number entry = map (λ (m : Message). record { call = number; message = m }) (messages_in entry.reply)

-- the messages that the calls of these entries caused, of which the first stands right behind this position
abbrev pub caused_from : ℕ → List (Entry Call Reply) → List CausedMessage
caused_from position [] = []
caused_from position (e ∷ es) = caused_by (position + 1) e ++ caused_from (position + 1) es
