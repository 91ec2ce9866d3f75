use Rattle.std.proofs.Common.{arith}
use Rattle.std.proofs.lemmas.Grind.{common_steps}
use Rattle.casa_inquiry.proofs.explaining.offers.Goals as goal

pub loop-regulation-preserved : goal.loop-regulation-preserved
loop-regulation-preserved g c = λ m shown. grind (arith, common_steps, c.loop-regulation.invariant m shown)
