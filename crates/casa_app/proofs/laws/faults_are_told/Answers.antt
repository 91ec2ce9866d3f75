use Rattle.casa_app.proofs.Told.{of_fault}
use Rattle.casa_app.proofs.laws.faults_are_told.Goals as goal

pub returns : goal.returns
returns c = of_fault
