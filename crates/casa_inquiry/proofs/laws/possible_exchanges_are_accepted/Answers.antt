use Rattle.casa_inquiry.proofs.ExchangeLaws.{accepted_named, named_accepted, named_once}
use Rattle.casa_inquiry.proofs.laws.possible_exchanges_are_accepted.Goals as goal

pub returns-clause-accepted : goal.returns-clause-accepted
returns-clause-accepted c = named_accepted

pub returns-clause-none_left_out : goal.returns-clause-none_left_out
returns-clause-none_left_out c = accepted_named

pub returns-clause-once : goal.returns-clause-once
returns-clause-once c = named_once
