use Rattle.std.proofs.Common.{◌≡◌, ◌++◌, drop}
use Rattle.casa_selection.specs.Messages.{caused_from}
use Rattle.casa_selection.proofs.messages.caused_messages.Given as goal

abbrev pub invariant-loop-entry : goal.invariant-loop-entry
invariant-loop-entry l = record {
  place : l.number ≡ l.entry-index;
  told : l.messages.items ++ caused_from l.number (drop l.entry-index l.entries) ≡ caused_from 0 l.entries;
}
