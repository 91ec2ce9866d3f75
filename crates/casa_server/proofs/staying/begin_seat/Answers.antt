use Rattle.std.proofs.Common.{rules}
use Rattle.casa_server.proofs.Seats.{same_sat}
use Rattle.casa_server.proofs.staying.begin_seat.Goals as goal

pub spawn_with-requires-clause-keeps : goal.spawn_with-requires-clause-keeps
spawn_with-requires-clause-keeps g c κs within = λ r post. rw c.of.ensures (search (rules, same_sat))
