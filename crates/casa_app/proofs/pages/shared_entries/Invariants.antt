use Rattle.std.proofs.Common.{◌≡◌, ◌++◌, drop}
use Rattle.casa_app.proofs.pages.shared_entries.Given as goal

abbrev pub invariant-loop-entry : goal.invariant-loop-entry
invariant-loop-entry l = l.entries.items ++ drop l.entry-index l.kept ≡ l.kept
