use Rattle.std.proofs.Common.{length}
use Rattle.casa_lines.proofs.calls.+look_at_crossings.Given as goal

abbrev pub decreases-look_at_crossings : goal.decreases-look_at_crossings
decreases-look_at_crossings l = length l.via.now
