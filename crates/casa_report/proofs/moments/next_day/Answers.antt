use Rattle.casa_report.proofs.Calendar.{last_stays, next_is}
use Rattle.casa_report.proofs.moments.next_day.Goals as goal

pub returns-in-Ok : goal.returns-in-Ok
returns-in-Ok c = next_is c.args.day c.in-Ok.next c.in-Ok.ensures.value

pub returns-in-Err : goal.returns-in-Err
returns-in-Err c = last_stays c.args.day c.in-Err.ensures.succeeds.1
