use Rattle.casa_plan.proofs.Replayed.{sequential}
use Rattle.casa_engine.proofs.laws.legal_histories_are_sequential.Goals as goal

pub returns : goal.returns
returns g c = sequential
