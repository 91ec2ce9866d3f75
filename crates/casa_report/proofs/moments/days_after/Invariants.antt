use Rattle.std.proofs.Common.{◌≡◌}
use Rattle.casa_report.specs.Moments.{calendar_day, days_after}
use Rattle.casa_report.proofs.moments.days_after.Given as goal

abbrev pub invariant-days : goal.invariant-days
invariant-days l = calendar_day l.date ≡ days_after l.counter (calendar_day l.fn.day)
