use Rattle.std.proofs.Common.{length}
use Rattle.casa_lines.proofs.calls.+look_at_periods.Given as goal

abbrev pub decreases-look_at_periods : goal.decreases-look_at_periods
decreases-look_at_periods l = length l.periods.now
