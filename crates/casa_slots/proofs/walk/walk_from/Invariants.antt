use Rattle.std.proofs.Common.{◌≡◌, ◌++◌, ◌<◌, take, drop, length}
use Rattle.casa_grid.specs.Slots.{slots}
use Rattle.casa_slots.specs.Walk.{walked, comps_in, low_behind, FollowFirst}
use Rattle.std.specs.List.{AllByRecursion}
use Rattle.casa_slots.proofs.Asked.{HasAsked}
use Rattle.casa_slots.proofs.walk.walk_from.Given as goal

abbrev pub invariant-loop-i : goal.invariant-loop-i
invariant-loop-i l =
    (take l.i l.competitors ++ walked (slots l.grid) l.blocked.counts l.low (comps_in (drop l.i l.competitors))
    ≡ take l.from l.fn.competitors ++ walked (slots l.grid) l.blocked.counts (low_behind (length l.blocked.counts) 0 (take l.from l.fn.competitors)) (comps_in (drop l.from l.fn.competitors)))
    × FollowFirst (slots l.grid) l.blocked.counts (drop l.i l.competitors)
    × (l.from < l.i → AllByRecursion (HasAsked (slots l.grid)) (drop l.i l.competitors))
