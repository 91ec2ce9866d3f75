use Rattle.std.proofs.Common.{◌≡◌, ◌≤◌, map, take}
use Rattle.casa_grid.specs.Slots.{slots}
use Rattle.casa_slots.specs.Blocked.{counts, times_in}
use Rattle.casa_slots.specs.Seat.{issued_in}
use Rattle.casa_slots.proofs.blocked.raise_all.Given as goal

abbrev pub invariant-loop-i : goal.invariant-loop-i
invariant-loop-i l = (l.blocked.counts ≡ counts (slots l.grid) (times_in (take l.i (map issued_in l.issued)))) × (l.fn.blocked.room ≤ l.blocked.room)
