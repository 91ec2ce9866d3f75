use Rattle.std.proofs.Common.{rules}
use Rattle.casa_server.proofs.Serving.{same_serves}
use Rattle.casa_server.proofs.server.serve_seen.Goals as goal

pub returns-clause-served : goal.returns-clause-served
returns-clause-served g c = search (rules, c.scoped.ensures, same_serves)
