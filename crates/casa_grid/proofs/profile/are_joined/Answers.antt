use Rattle.std.proofs.Common.{arith}
use Rattle.std.proofs.lemmas.Grind.{common_steps}
use Rattle.casa_grid.proofs.profile.are_joined.Goals as goal

pub loop-period-preserved : goal.loop-period-preserved
loop-period-preserved c = grind (arith, common_steps)
