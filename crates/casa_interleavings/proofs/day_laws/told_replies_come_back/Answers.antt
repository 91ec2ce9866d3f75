use Rattle.casa_interleavings.proofs.Legal.{read_again}
use Rattle.casa_interleavings.proofs.day_laws.told_replies_come_back.Goals as goal

pub returns : goal.returns
returns g c = read_again g.S.Script
