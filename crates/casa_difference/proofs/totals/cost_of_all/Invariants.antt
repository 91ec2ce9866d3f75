use Rattle.std.specs.Prelude.{◌≡◌, take}
use Rattle.casa_flight.specs.declared.state.State.{State}
use Rattle.casa_flight.specs.Good.{IsGood}
use Rattle.casa_inquiry.specs.Summary.{cost_of_all, lists_told}
use Rattle.casa_difference.proofs.totals.cost_of_all.Given as goal

abbrev pub invariant-loop-regulation : goal.invariant-loop-regulation
invariant-loop-regulation g l =
    (m : State) → IsGood m → g.S.Shown.shows l.shown m → l.cost ≡ cost_of_all (take l.regulation-index (lists_told m))
