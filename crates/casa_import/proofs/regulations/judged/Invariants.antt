use Rattle.std.proofs.Common.{◌≡◌, take}
use Rattle.std.specs.Prelude.{map}
use Rattle.casa_import.specs.Regulations.{judged_row}
use Rattle.casa_import.proofs.regulations.judged.Given as goal

abbrev pub invariant-loop-row : goal.invariant-loop-row
invariant-loop-row l = l.all.items ≡ map (judged_row l.periods.items) (take l.row-index l.rows)
