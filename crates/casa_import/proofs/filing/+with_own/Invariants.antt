use Rattle.std.proofs.Common.{length}
use Rattle.casa_import.proofs.filing.+with_own.Given as goal

abbrev pub decreases-with_own : goal.decreases-with_own
decreases-with_own l = length l.columns.now
