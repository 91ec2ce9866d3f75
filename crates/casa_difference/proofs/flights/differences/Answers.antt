use Rattle.std.proofs.Common.{arith}
use Rattle.std.proofs.lemmas.Grind.{common_steps}
use Rattle.casa_difference.proofs.flights.differences.Goals as goal

pub loop-key-preserved : goal.loop-key-preserved
loop-key-preserved g c = λ m n base variant. grind (arith, common_steps, c.loop-key.invariant m n base variant)

pub loop-key-init : goal.loop-key-init
loop-key-init g c = λ m n base variant. grind (arith, common_steps, c.in_ok-base_keys.ensures m base, c.in_ok-variant_keys.ensures n variant)

pub returns : goal.returns
returns g c = λ m n base variant. grind (arith, common_steps, c.loop-key.invariant m n base variant)
