use Rattle.std.proofs.Common.{◌+◌, ◌<◌, ◌^◌, ◌++◌, List, length, take}
use Rattle.casa_flight.specs.declared.call.Call.{Call}
use Rattle.casa_flight.specs.declared.reply.Reply.{Reply}
use Rattle.casa_history.specs.declared.entry.Entry.{Entry}
use Rattle.casa_live.specs.Tallies.{IsTallyOf}
use Rattle.casa_live.proofs.tally.Tally.add_all.Given as goal

abbrev pub invariant-loop-entry : goal.invariant-loop-entry
invariant-loop-entry l =
    (history : List (Entry Call Reply)) → length history + length l.entries < 2 ^ 64 →
    IsTallyOf history l.fn.self → IsTallyOf (history ++ take l.entry-index l.entries) l.self
