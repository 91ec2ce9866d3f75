use Rattle.std.proofs.Common.{◌≡◌, drop}
use Rattle.std.specs.List.{find}
use Rattle.casa_filing.specs.Subject.{is_there}
use Rattle.casa_filing.proofs.plan.Plan.time_over.Given as goal

abbrev pub invariant-loop-crossing : goal.invariant-loop-crossing
invariant-loop-crossing l = find (is_there l.regulation.loc) (drop l.crossing-index l.crossing-items) ≡ find (is_there l.regulation.loc) l.self.via
