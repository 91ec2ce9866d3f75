use Rattle.std.proofs.Common.{◌∙◌, ap, add-one}
use Rattle.casa_report.specs.Moments.{next_day}
use Rattle.casa_report.proofs.moments.days_after.Goals as goal

pub days-preserved : goal.days-preserved
days-preserved c = rw add-one (c.next_day-date.ensures ∙ ap next_day c.days.invariant)
