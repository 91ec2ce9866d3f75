use Rattle.casa_plan_spec.proofs.Opens.{open_planned}
use Rattle.casa_plan_spec.proofs.opening_laws.open_is_planned.Goals as goal

pub returns : goal.returns
returns c = open_planned
