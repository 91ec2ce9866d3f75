use Rattle.std.proofs.Common.{◌∙◌}
use Rattle.casa_filing.specs.declared.regulation.Measure.{Measure}
use Rattle.casa_filing.specs.Subject.{regulation}
use Rattle.casa_filing.specs.Text.{Text}
use Rattle.casa_flight.specs.Listing.{listing}
use Rattle.casa_flight.specs.Replies.{list_reply}
use Rattle.casa_inquiry.proofs.Flights.{all_delays}
use Rattle.casa_look.proofs.Shown.{shown_delays}
use Rattle.casa_look.proofs.laws.state_shows_what_flights_wait.Goals as goal

pub returns : goal.returns
returns c = λ m good. shown_delays (λ (e : Text × Measure). list_reply m (regulation e.0 e.1) (listing m.rows e.0 e.1)) m.regs ∙ all_delays m good
