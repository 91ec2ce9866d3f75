use Rattle.casa_plan_spec.proofs.Crossings.{best_is}
use Rattle.casa_plan_spec.proofs.flight_laws.best_offer_is_the_choice.Goals as goal

pub returns : goal.returns
returns c = best_is
