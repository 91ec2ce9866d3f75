use Rattle.casa_plan_spec.proofs.Newcomers.{newcomers}
use Rattle.casa_plan_spec.proofs.opening_laws.newcomers_are_among_all.Goals as goal

pub returns : goal.returns
returns c = newcomers
