use Rattle.casa_laws.proofs.Planned.{over_who, over_order}
use Rattle.casa_laws.proofs.laws.entering_flights_are_in_order.Goals as goal

pub returns-clause-who : goal.returns-clause-who
returns-clause-who c = over_who

pub returns-clause-order : goal.returns-clause-order
returns-clause-order c = over_order
