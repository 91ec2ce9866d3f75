use Rattle.std.proofs.Common.{◌≡◌, ◌≤◌, length, map, take}
use Rattle.casa_history.specs.Settlement.{passes_of}
use Rattle.casa_history.proofs.settlement.count_passes.Given as goal

abbrev pub invariant-loop-holder : goal.invariant-loop-holder
invariant-loop-holder g l = record {
  few : l.count ≤ l.holder-index;
  counted : l.count ≡ length (passes_of l.desk (map g.P.Holds.held (take l.holder-index l.passes)));
}
