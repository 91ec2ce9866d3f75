use Rattle.std.proofs.Common.{rules}
use Rattle.casa_engine.proofs.Seeing.{begins_more}
use Rattle.casa_server.proofs.Serving.{serves_in_more, same_serves}
use Rattle.casa_server.proofs.Ticking.{ticked_in_more, same_ticked}
use Rattle.casa_server.proofs.timed.serve_with_timer.Goals as goal

-- both in the history as it is when both have ended
pub returns-clause-told : goal.returns-clause-told
returns-clause-told g c =
    let told = c.join-answered.result in
    let now = c.see.new.front in (
      now,
      serves_in_more _ _ _ _ told.0.1 now _ told.0.0 (begins_more _ _ _ c.joined-front.ensures.this c.see.ensures.longer)
          c.see.ensures.legal (search (rules, c.join-answered.ensures.first, same_serves)),
      ticked_in_more _ _ told.1.1 now _ _ told.1.0 (begins_more _ _ _ c.joined-front.ensures.that c.see.ensures.longer)
          c.see.ensures.legal (search (rules, c.join-answered.ensures.second, same_ticked)),
    )
