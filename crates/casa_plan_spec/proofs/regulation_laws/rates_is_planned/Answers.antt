use Rattle.casa_plan_spec.proofs.NewRates.{rates_planned}
use Rattle.casa_plan_spec.proofs.regulation_laws.rates_is_planned.Goals as goal

pub returns : goal.returns
returns c = rates_planned
