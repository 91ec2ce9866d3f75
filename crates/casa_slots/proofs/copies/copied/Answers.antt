use Rattle.std.proofs.Common.{arith}
use Rattle.std.proofs.lemmas.Grind.{common_steps}
use Rattle.casa_slots.proofs.copies.copied.Goals as goal

pub loop-some-preserved : goal.loop-some-preserved
loop-some-preserved g c = grind (arith, common_steps)
