use Rattle.casa_plan_spec.proofs.Swaps.{swap_planned}
use Rattle.casa_plan_spec.proofs.regulation_laws.swap_is_planned.Goals as goal

pub returns : goal.returns
returns c = swap_planned
