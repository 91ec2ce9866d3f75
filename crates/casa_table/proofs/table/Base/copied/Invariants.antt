use Rattle.std.proofs.Common.{◌≡◌, ◌++◌}
use Rattle.casa_table.proofs.table.Base.copied.Given as goal

abbrev pub invariant-loop-name : goal.invariant-loop-name
invariant-loop-name g l = l.copy ++ l.name-iterator ≡ l.self
