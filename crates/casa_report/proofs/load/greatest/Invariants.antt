use Rattle.std.proofs.Common.{◌≡◌, take}
use Rattle.casa_report.specs.LoadTable.{greatest}
use Rattle.casa_report.proofs.load.greatest.Given as goal

abbrev pub invariant-steps : goal.invariant-steps
invariant-steps l = l.greatest ≡ greatest (take l.step-index l.steps)
