use Rattle.std.proofs.Common.{rules}
use Rattle.casa_server.proofs.Serving.{same_session}
use Rattle.casa_server.proofs.server.begin.Goals as goal

pub spawn_with-requires-clause-keeps : goal.spawn_with-requires-clause-keeps
spawn_with-requires-clause-keeps g c κs within = λ r post. rw c.of-connection.ensures (search (rules, same_session))
