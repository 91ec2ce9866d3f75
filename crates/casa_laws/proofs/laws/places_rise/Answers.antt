use Rattle.casa_laws.proofs.Rising.{places_rising}
use Rattle.casa_laws.proofs.laws.places_rise.Goals as goal

pub returns : goal.returns
returns c = places_rising
