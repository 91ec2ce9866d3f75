use Rattle.std.specs.Prelude.{◌≡◌, take}
use Rattle.casa_inquiry.specs.Summary.{governed_delays, greatest}
use Rattle.casa_inquiry.proofs.summary.longest.Given as goal

abbrev pub invariant-loop-row : goal.invariant-loop-row
invariant-loop-row l = l.longest ≡ greatest (governed_delays (take l.row-index l.rows))
