use Rattle.std.proofs.Common.{◌≡◌, take}
use Rattle.casa_traffic.specs.Making.{staying}
use Rattle.casa_traffic.proofs.making.push_staying.Given as goal

abbrev pub invariant-loop-row : goal.invariant-loop-row
invariant-loop-row l = l.locations.items ≡ staying l.fn.locations.items l.columns (take l.row-index l.rows)
