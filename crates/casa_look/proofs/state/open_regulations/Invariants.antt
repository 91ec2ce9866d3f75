use Rattle.std.specs.Prelude.{◌≡◌, take}
use Rattle.casa_flight.specs.declared.state.State.{State}
use Rattle.casa_inquiry.specs.Shown.{AreShownOf}
use Rattle.casa_look.specs.StateText.{open_regulations}
use Rattle.casa_look.proofs.state.open_regulations.Given as goal

abbrev pub invariant-loop-number : goal.invariant-loop-number
invariant-loop-number l = (m : State) → AreShownOf m l.shown → l.all.items ≡ take l.number (open_regulations m)
