use Rattle.std.proofs.Common.{refl}
use Rattle.casa_server.proofs.staying.begin_seats.Goals as goal

pub beginning-init : goal.beginning-init
beginning-init g c = (c.into_iter-source-iterator.ensures.into_iter_gives.0, rw c.new-seats.ensures.items refl)
