use Rattle.std.proofs.Common.{◌+◌, ◌≤◌, length}
use Rattle.casa_service.proofs.checking.answer_again.Given as goal

-- each line that was answered had an end
abbrev pub invariant-loop-line : goal.invariant-loop-line
invariant-loop-line l = l.position + length l.rest ≤ length l.lines

abbrev pub decreases-loop-line : goal.decreases-loop-line
decreases-loop-line l = length l.rest
