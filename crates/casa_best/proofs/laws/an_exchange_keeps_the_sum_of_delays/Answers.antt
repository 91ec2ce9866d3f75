use Rattle.casa_best.proofs.Exchanged.{delays_exchanged}
use Rattle.casa_best.proofs.laws.an_exchange_keeps_the_sum_of_delays.Goals as goal

pub returns : goal.returns
returns c = delays_exchanged
