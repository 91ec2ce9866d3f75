use Rattle.std.proofs.Common.{◌≡◌, drop, length}
use Rattle.casa_grid.specs.Slots.{slots}
use Rattle.casa_slots.specs.Blocked.{lowered}
use Rattle.casa_slots.specs.Walk.{walked, comps_in, low_behind, FollowFirst}
use Rattle.casa_slots.proofs.walk.low_once_left.Given as goal

abbrev pub invariant-loop-seat : goal.invariant-loop-seat
invariant-loop-seat l =
    let ws = slots l.grid in
    let bs = lowered l.blocked.counts l.left in
    (low_behind (length bs) l.low (walked ws bs l.low (comps_in (drop l.seat-index l.competitors)))
    ≡ low_behind (length bs) l.fn.low (walked ws bs l.fn.low (comps_in l.competitors)))
    × FollowFirst ws bs (drop l.seat-index l.competitors)
