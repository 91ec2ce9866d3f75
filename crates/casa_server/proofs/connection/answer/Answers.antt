use Rattle.casa_server.proofs.Serving.{is_session}
use Rattle.casa_server.proofs.connection.answer.Goals as goal

pub returns : goal.returns
returns g c =
    let session = c.session-ended in
    is_session _ _ _ _ c.args.connection.ends (session.new.reader, session.new.writer) c.args.connection.pass session.result.1
    c.front-front.result session.result.0 c.front-front.ensures.same c.args.connection.unused session.ensures
