use Rattle.casa_laws.proofs.Chosen.{choice_among, choice_greatest, choice_ties, choice_none}
use Rattle.casa_laws.proofs.laws.choice_is_most_penalising.Goals as goal

pub returns-clause-among : goal.returns-clause-among
returns-clause-among c = choice_among

pub returns-clause-greatest : goal.returns-clause-greatest
returns-clause-greatest c = choice_greatest

pub returns-clause-ties : goal.returns-clause-ties
returns-clause-ties c = choice_ties

pub returns-clause-none : goal.returns-clause-none
returns-clause-none c = choice_none
