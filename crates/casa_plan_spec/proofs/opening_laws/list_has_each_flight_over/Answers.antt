use Rattle.casa_plan_spec.proofs.ListOver.{each_over}
use Rattle.casa_plan_spec.proofs.opening_laws.list_has_each_flight_over.Goals as goal

pub returns : goal.returns
returns c = each_over
