use Rattle.std.specs.Prelude.{◌≡◌, ◌*◌, ◌^◌, take}
use Rattle.std.specs.List.{sum_by}
use Rattle.casa_flight.specs.declared.reply.ListReply.{ListReply}
use Rattle.casa_inquiry.specs.Summary.{AreAtMost, count, governed_delays, greatest, is_forced, is_governed, is_issued, is_over, rows_of, total_delay}
use Rattle.casa_inquiry.proofs.summary.Cost.of_all.Given as goal

abbrev pub invariant-loop-list : goal.invariant-loop-list
invariant-loop-list l = record {
  slots : l.cost.slots ≡ sum_by (λ (list : ListReply). list.slots) (take l.list-index l.lists);
  governed : l.cost.governed ≡ count is_governed (rows_of (take l.list-index l.lists));
  issued : l.cost.issued ≡ count is_issued (rows_of (take l.list-index l.lists));
  forced : l.cost.forced ≡ count is_forced (rows_of (take l.list-index l.lists));
  over : l.cost.over ≡ count is_over (rows_of (take l.list-index l.lists));
  delay : l.cost.delay ≡ total_delay (take l.list-index l.lists);
  longest : l.cost.longest ≡ greatest (governed_delays (rows_of (take l.list-index l.lists)));
  bound : AreAtMost (l.list-index * 2 ^ 64) l.cost;
}
