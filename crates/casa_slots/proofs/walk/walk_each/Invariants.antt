use Rattle.std.proofs.Common.{◌≡◌, ◌++◌, take, drop}
use Rattle.casa_grid.specs.Slots.{slots}
use Rattle.casa_slots.specs.Walk.{walked, comps_in}
use Rattle.casa_slots.proofs.walk.walk_each.Given as goal

abbrev pub invariant-loop-i : goal.invariant-loop-i
invariant-loop-i l =
    take l.i l.competitors ++ walked (slots l.grid) l.blocked.counts l.low (comps_in (drop l.i l.competitors))
    ≡ walked (slots l.grid) l.blocked.counts 0 (comps_in l.fn.competitors)
