use Rattle.casa_plan_spec.proofs.Closes.{close_planned}
use Rattle.casa_plan_spec.proofs.opening_laws.close_is_planned.Goals as goal

pub returns : goal.returns
returns c = close_planned
