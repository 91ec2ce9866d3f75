use Rattle.std.proofs.Common.{◌≡◌, take}
use Rattle.casa_import.specs.Filing.{earliest}
use Rattle.casa_import.proofs.filing.earliest.Given as goal

abbrev pub invariant-loop-crossing : goal.invariant-loop-crossing
invariant-loop-crossing l = l.via.items ≡ earliest (take l.crossing-index l.crossings)
