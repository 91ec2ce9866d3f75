use Rattle.casa_plan_spec.proofs.Listed.{list_planned}
use Rattle.casa_plan_spec.proofs.regulation_laws.list_is_planned.Goals as goal

pub returns : goal.returns
returns c = list_planned
