use Rattle.casa_inquiry.proofs.Flights.{all_delays}
use Rattle.casa_inquiry.proofs.laws.summary_tells_what_flights_wait.Goals as goal

pub returns : goal.returns
returns c = all_delays
