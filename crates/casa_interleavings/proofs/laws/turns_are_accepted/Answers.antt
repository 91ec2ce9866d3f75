use Rattle.std.proofs.Common.{refl}
use Rattle.casa_interleavings.specs.Board.{sequential_reply, HasSameStamps}
use Rattle.casa_interleavings.proofs.Turns.{turn_accepted}
use Rattle.casa_interleavings.proofs.laws.turns_are_accepted.Goals as goal

pub returns : goal.returns
returns c = turn_accepted sequential_reply HasSameStamps (λ before call i seen. refl)
