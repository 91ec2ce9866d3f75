use Rattle.std.proofs.Common.{◌≡◌, drop}
use Rattle.casa_filing.specs.PlanFaults.{has_twice}
use Rattle.casa_filing.proofs.plan.has_twice.Given as goal

abbrev pub invariant-loop-i : goal.invariant-loop-i
invariant-loop-i l = has_twice (drop l.i l.via) ≡ has_twice l.via
