use Rattle.std.proofs.Common.{◌≡◌, take}
use Rattle.casa_import.specs.Regulations.{periods_said}
use Rattle.casa_import.proofs.regulations.periods_said.Given as goal

abbrev pub invariant-loop-row : goal.invariant-loop-row
invariant-loop-row l = l.periods.items ≡ periods_said (take l.row-index l.rows)
