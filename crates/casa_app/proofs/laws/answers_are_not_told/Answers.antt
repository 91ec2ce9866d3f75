use Rattle.casa_app.proofs.Told.{of_answer}
use Rattle.casa_app.proofs.laws.answers_are_not_told.Goals as goal

pub returns : goal.returns
returns c = of_answer
