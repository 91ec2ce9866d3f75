use Rattle.casa_plan_spec.proofs.Ticks.{tick_planned}
use Rattle.casa_plan_spec.proofs.regulation_laws.tick_is_planned.Goals as goal

pub returns : goal.returns
returns c = tick_planned
