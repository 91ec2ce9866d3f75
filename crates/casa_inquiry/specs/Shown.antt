-- to believe: what is shown of a state
use Rattle.std.specs.Prelude.{◌≡◌, map}
use Rattle.casa_filing.specs.declared.regulation.Measure.{Measure}
use Rattle.casa_filing.specs.Text.{Text}
use Rattle.casa_flight.specs.declared.state.State.{State}
use Rattle.casa_flight.specs.State.{catalogue}
use Rattle.casa_flight.specs.Listing.{listing}
use Rattle.casa_inquiry.specs.declared.shown.ShownLists.{ShownLists}

-- these are the clock of a state, its open regulations in the order of their identifiers, and the list of each
pub record AreShownOf (m : State) (shown : ShownLists) : Type 0 where
  pub clock : shown.clock ≡ m.clock
  pub regulations : shown.regulations.now ≡ catalogue m
  pub lists : shown.lists.now ≡ map (λ (e : Text × Measure). listing m.rows e.0 e.1) m.regs
