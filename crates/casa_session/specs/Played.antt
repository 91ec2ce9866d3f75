-- to believe: what the sequential allocator answers to calls, one after the other
use Rattle.std.specs.Prelude.{ℕ, ◌+◌, List, [], ◌∷◌, fold, length, map}
use Rattle.casa_flight.specs.declared.call.Call.{Call}
use Rattle.casa_flight.specs.declared.reply.Reply.{Reply}
use Rattle.casa_flight.specs.declared.state.State.{State}
use Rattle.casa_flight.specs.State.{empty}
use Rattle.casa_flight.specs.Steps.{next}
use Rattle.casa_flight.specs.Replies.{reply}
use Rattle.casa_history.specs.declared.entry.Entry.{Entry}
use Rattle.casa_history.specs.Entries.{receipts_from}
use Rattle.casa_commit.specs.Legal.{entry}
use Rattle.casa_session.specs.Receipts.{Receipts}

-- the number of the one desk
abbrev pub only_desk : ℕ
only_desk = 0

-- the history of these calls from a state
abbrev pub sequential_history : State → List Call → List (Entry Call Reply)
sequential_history m [] = []
sequential_history m (c ∷ cs) = entry only_desk c (reply m c) ∷ sequential_history (next m c) cs

-- the calls of a history
abbrev pub calls_in : List (Entry Call Reply) → List Call
calls_in history = map (λ (e : Entry Call Reply). e.call) history

-- the state after these calls from the empty one
abbrev pub state_after_calls : List Call → State
state_after_calls calls = fold next empty calls

-- the receipts of these calls from the empty state
abbrev pub receipts_played : List Call → Receipts
receipts_played calls = receipts_from 1 (sequential_history empty calls)

-- the receipts of these calls after the calls before them
abbrev pub receipts_after : List Call → List Call → Receipts
receipts_after before calls = receipts_from (length before + 1) (sequential_history (state_after_calls before) calls)
