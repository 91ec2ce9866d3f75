use Rattle.std.proofs.Common.{rules}
use Rattle.casa_engine.proofs.Seeing.{begins_more}
use Rattle.casa_server.proofs.Seats.{same_stayed, stayed_in_more}
use Rattle.casa_server.proofs.Ticking.{same_ticked, ticked_in_more}
use Rattle.casa_server.proofs.staying.stay_with_timer.Goals as goal

-- both in the history as it is when both have ended
pub returns : goal.returns
returns g c =
    let told = c.join-stayed.result in
    let now = c.see.new.front in (
      now,
      stayed_in_more _ _ _ _ told.0.1 now _ told.0.0 (begins_more _ _ _ c.joined-front.ensures.this c.see.ensures.longer)
          c.see.ensures.legal (search (rules, c.join-stayed.ensures.first, same_stayed)),
      ticked_in_more _ _ told.1.1 now _ _ told.1.0 (begins_more _ _ _ c.joined-front.ensures.that c.see.ensures.longer)
          c.see.ensures.legal (search (rules, c.join-stayed.ensures.second, same_ticked)),
    )
