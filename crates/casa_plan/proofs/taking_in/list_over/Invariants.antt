use Rattle.std.proofs.Common.{◌≡◌, map, take}
use Rattle.casa_plan.specs.TakingIn.{member_of}
use Rattle.casa_plan.proofs.taking_in.list_over.Given as goal

abbrev pub invariant-loop-over : goal.invariant-loop-over
invariant-loop-over l = l.members.items ≡ map (member_of l.id) (take l.over-index l.flights)
