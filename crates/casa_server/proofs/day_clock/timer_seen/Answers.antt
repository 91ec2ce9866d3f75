use Rattle.casa_server.proofs.Ticking.{is_ticked}
use Rattle.casa_server.proofs.day_clock.timer_seen.Goals as goal

pub returns : goal.returns
returns g c =
    is_ticked _ _ _ _ c.new-desk.result.pass c.keep_time-accepted.new.desk.pass c.front-2.result c.keep_time-accepted.result
    c.front-2.ensures.same (rw c.new-desk.ensures c.in-Ok.ensures) c.keep_time-accepted.ensures.ticked
