use Rattle.std.proofs.Common.{◌≡◌}
use Rattle.casa_table.specs.Laid.{with_changes}
use Rattle.casa_table.proofs.table.Base.merged.Given as goal

abbrev pub invariant-loop-name : goal.invariant-loop-name
invariant-loop-name g l = with_changes l.name-iterator l.merged ≡ with_changes l.changes.entries l.self
