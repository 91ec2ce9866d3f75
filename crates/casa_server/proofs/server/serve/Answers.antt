use Rattle.casa_server.proofs.Serving.{serves_in_some}
use Rattle.casa_server.proofs.server.serve.Goals as goal

pub returns-clause-served : goal.returns-clause-served
returns-clause-served g c =
    serves_in_some _ _ _ _ c.serve_seen-served.result.1 _ c.serve_seen-served.result.0 c.serve_seen-served.ensures.served
