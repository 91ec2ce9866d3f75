use Rattle.std.proofs.Common.{◌≡◌, ◌++◌, drop}
use Rattle.casa_grid.specs.Slots.{slots}
use Rattle.casa_flight.specs.Assignment.{assignment, assigned_after}
use Rattle.casa_plain.proofs.assignment.assignment.Given as goal

abbrev pub invariant-loop-comp : goal.invariant-loop-comp
invariant-loop-comp l =
    l.all.items ++ assigned_after (record { slots = slots l.grid; issued = l.issued }) l.all.items (drop l.comp-index l.comps)
    ≡ assignment (record { slots = slots l.grid; issued = l.issued }) l.comps
