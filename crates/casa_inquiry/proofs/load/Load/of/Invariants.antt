use Rattle.std.proofs.Common.{◌≡◌, map}
use Rattle.std.specs.List.{range_with_len}
use Rattle.casa_inquiry.specs.Load.{begins, span_at, step}
use Rattle.casa_inquiry.proofs.load.Load.of.Given as goal

abbrev pub invariant-steps : goal.invariant-steps
invariant-steps l = l.steps.items ≡ map (step (begins l.grid) l.rows) (map (span_at l.profile l.secs) (range_with_len 0 l.k))
