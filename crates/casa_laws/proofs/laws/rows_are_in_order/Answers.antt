use Rattle.casa_laws.proofs.Planned.{rows_who, rows_order}
use Rattle.casa_laws.proofs.laws.rows_are_in_order.Goals as goal

pub returns-clause-who : goal.returns-clause-who
returns-clause-who c = rows_who

pub returns-clause-order : goal.returns-clause-order
returns-clause-order c = rows_order
