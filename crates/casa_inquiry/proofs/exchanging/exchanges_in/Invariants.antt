use Rattle.std.proofs.Common.{◌≡◌, ◌++◌, drop}
use Rattle.std.specs.List.{filter_map}
use Rattle.casa_flight.specs.declared.state.State.{State}
use Rattle.casa_inquiry.specs.Exchanges.{exchange_in, exchanges_in}
use Rattle.casa_inquiry.proofs.exchanging.exchanges_in.Given as goal

abbrev pub invariant-loop-member : goal.invariant-loop-member
invariant-loop-member g l =
    (m : State) → g.S.Shown.shows l.shown m
    → l.all.items ++ filter_map (exchange_in m l.key l.plan l.own) (drop l.member-index l.member-items)
    ≡ exchanges_in m l.key l.plan l.own l.list
