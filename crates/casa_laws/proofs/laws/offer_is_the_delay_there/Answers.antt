use Rattle.casa_laws.proofs.Times.{offer_delay, offer_time}
use Rattle.casa_laws.proofs.laws.offer_is_the_delay_there.Goals as goal

pub returns-clause-delay : goal.returns-clause-delay
returns-clause-delay c = offer_delay

pub returns-clause-time : goal.returns-clause-time
returns-clause-time c = offer_time
