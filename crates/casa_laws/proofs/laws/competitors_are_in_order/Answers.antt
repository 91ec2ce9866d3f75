use Rattle.casa_laws.proofs.Planned.{list_sorted, competitors_who, competitors_order}
use Rattle.casa_laws.proofs.laws.competitors_are_in_order.Goals as goal

pub returns-clause-lists : goal.returns-clause-lists
returns-clause-lists c = list_sorted

pub returns-clause-who : goal.returns-clause-who
returns-clause-who c = competitors_who

pub returns-clause-order : goal.returns-clause-order
returns-clause-order c = competitors_order
