use Rattle.std.specs.Prelude.{◌≡◌, ◌≤◌, ◌*◌, ◌^◌, filter, take}
use Rattle.std.specs.List.{sum_by}
use Rattle.casa_inquiry.specs.Summary.{delay, is_governed}
use Rattle.casa_inquiry.proofs.summary.delay_in.Given as goal

abbrev pub invariant-loop-row : goal.invariant-loop-row
invariant-loop-row l = record {
  sum_is : l.sum ≡ sum_by delay (filter is_governed (take l.row-index l.rows));
  bound : l.sum ≤ l.row-index * 2 ^ 32;
}
