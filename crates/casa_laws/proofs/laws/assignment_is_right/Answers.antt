use Rattle.casa_laws.proofs.Assignment.{assignment_right, comps-assignment, right_is_assignment}
use Rattle.casa_laws.proofs.laws.assignment_is_right.Goals as goal

pub returns-clause-right : goal.returns-clause-right
returns-clause-right c = assignment_right

pub returns-clause-whose : goal.returns-clause-whose
returns-clause-whose c = comps-assignment

pub returns-clause-only : goal.returns-clause-only
returns-clause-only c = right_is_assignment
