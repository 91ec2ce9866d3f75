use Rattle.std.proofs.Common.{◌≡◌, take}
use Rattle.casa_import.specs.Filing.{shortest}
use Rattle.casa_import.proofs.filing.shortest.Given as goal

abbrev pub invariant-loop-crossing : goal.invariant-loop-crossing
invariant-loop-crossing l = l.least ≡ shortest l.fn.taxi l.eobt (take l.crossing-index l.via)
