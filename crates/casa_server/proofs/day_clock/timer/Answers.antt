use Rattle.casa_server.proofs.Ticking.{ticked_in_some}
use Rattle.casa_server.proofs.day_clock.timer.Goals as goal

pub returns : goal.returns
returns g c = ticked_in_some _ _ c.timer_seen-accepted.result.1 _ _ c.timer_seen-accepted.result.0 c.timer_seen-accepted.ensures
