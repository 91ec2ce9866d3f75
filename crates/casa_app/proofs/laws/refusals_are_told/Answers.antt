use Rattle.casa_app.proofs.Told.{of_refusal}
use Rattle.casa_app.proofs.laws.refusals_are_told.Goals as goal

pub returns : goal.returns
returns c = of_refusal
