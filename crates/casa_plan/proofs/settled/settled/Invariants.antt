use Rattle.std.proofs.Common.{◌≡◌}
use Rattle.casa_plan.proofs.WholeLists.{settled_each}
use Rattle.casa_plan.proofs.settled.settled.Given as goal

abbrev pub invariant-loop-id : goal.invariant-loop-id
invariant-loop-id g l =
    (goal.iterator-loop-id g).can_next l.id-iterator ×
    (goal.iterator-loop-id g).is_finite l.id-iterator ×
    (settled_each l.view l.settled l.id-iterator ≡ settled_each l.view l.initial.settled l.initial.id-iterator)
