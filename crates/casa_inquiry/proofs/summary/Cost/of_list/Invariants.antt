use Rattle.std.specs.Prelude.{◌≡◌, ◌+◌, ◌*◌, ◌≤◌, ◌^◌, length, map, take}
use Rattle.casa_grid.specs.Slots.{slots}
use Rattle.casa_inquiry.specs.Summary.{AreAtMost, cost, row_told}
use Rattle.casa_inquiry.proofs.summary.Cost.of_list.Given as goal

abbrev pub invariant-loop-member : goal.invariant-loop-member
invariant-loop-member l = record {
  so_far : l.cost ≡ cost (length (slots l.list.profile)) (map (row_told l.list) (take l.member-index l.member-items));
  few : AreAtMost (2 ^ 64 + l.member-index) l.cost;
  short : l.cost.delay ≤ l.member-index * 2 ^ 32;
}
