use Rattle.casa_laws.proofs.Assignment.{take-assignment}
use Rattle.casa_laws.proofs.laws.later_competitors_change_nothing.Goals as goal

pub returns : goal.returns
returns c = take-assignment
