use Rattle.std.proofs.Common.{rules}
use Rattle.casa_server.proofs.Seats.{same_stayed}
use Rattle.casa_server.proofs.staying.stay_seen.Goals as goal

pub returns : goal.returns
returns g c = search (rules, c.scoped.ensures, same_stayed)
