use Rattle.std.proofs.Common.{arith}
use Rattle.std.proofs.lemmas.Grind.{common_steps}
use Rattle.casa_inquiry.proofs.exchanging.exchanges_in.Goals as goal

pub loop-member-preserved : goal.loop-member-preserved
loop-member-preserved g c = λ m shown. grind (arith, common_steps, c.loop-member.invariant m shown)
