use Rattle.std.proofs.Common.{◌≡◌, map}
use Rattle.std.specs.List.{range_with_len}
use Rattle.casa_grid.specs.Slots.{slots, begin_at}
use Rattle.casa_inquiry.proofs.load.begins_of.Given as goal

abbrev pub invariant-slots : goal.invariant-slots
invariant-slots l = l.all.items ≡ map (begin_at (slots l.grid)) (range_with_len 0 l.k)
