use Rattle.casa_laws.proofs.Good.{empty_good}
use Rattle.casa_laws.proofs.GoodRegs.{next-good}
use Rattle.casa_laws.proofs.laws.good_states_are_kept.Goals as goal

pub returns : goal.returns
returns c = record { opening = empty_good; kept = next-good }
