use Rattle.std.specs.Prelude.{◌≡◌, drop}
use Rattle.casa_flight.specs.declared.state.State.{State}
use Rattle.casa_flight.specs.Listing.{list_of}
use Rattle.casa_inquiry.specs.Shown.{AreShownOf}
use Rattle.casa_inquiry.proofs.Listed.{list_among}
use Rattle.casa_inquiry.proofs.shown.ShownListsShown.list.Given as goal

abbrev pub invariant-loop-number : goal.invariant-loop-number
invariant-loop-number l =
    (m : State) → AreShownOf m l.self → list_among m.rows l.id (drop l.number m.regs) ≡ list_of m l.id
