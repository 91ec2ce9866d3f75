use Rattle.std.proofs.Common.{◌≡◌, ◌++◌, ◌-◌}
use Rattle.std.specs.List.{flat_map, range_with_len}
use Rattle.casa_inquiry.specs.Why.{holdings, holdings_at}
use Rattle.casa_inquiry.proofs.why.holdings.Given as goal

abbrev pub invariant-loop-slot : goal.invariant-loop-slot
invariant-loop-slot l =
    l.all.items ++ flat_map (holdings_at l.list) (range_with_len l.slot (l.until - l.slot)) ≡ holdings l.key l.list
