use Rattle.std.proofs.Common.{◌≡◌, ◌↔◌}
use Rattle.casa_history.specs.Entries.{entries, receipts, receipts_of}
use Rattle.casa_history.proofs.Settling.{left_of}
use Rattle.casa_history.proofs.settlement.are_receipts.Given as goal

abbrev pub invariant-loop-k : goal.invariant-loop-k
invariant-loop-k g l = record {
  desk : l.desk ≡ l.pass.desk;
  decides : (l.rest ≡ left_of l.desk l.k (entries l.history)) ↔
      (receipts l.pass ≡ receipts_of l.desk (entries l.history));
}
