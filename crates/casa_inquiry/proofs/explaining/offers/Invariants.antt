use Rattle.std.proofs.Common.{◌≡◌, ◌++◌, drop}
use Rattle.std.specs.List.{filter_map}
use Rattle.casa_flight.specs.declared.state.State.{State}
use Rattle.casa_flight.specs.Entry.{offer, offers, situation}
use Rattle.casa_inquiry.proofs.explaining.offers.Given as goal

abbrev pub invariant-loop-regulation : goal.invariant-loop-regulation
invariant-loop-regulation g l =
    (m : State) → g.S.Shown.shows l.shown m
    → l.all.items ++ filter_map (offer (situation m) l.key l.plan) (drop l.regulation-index l.regulation-items)
    ≡ offers (situation m) l.key l.plan
