-- along the offers, the more penalising one leads to the most penalising one
use Rattle.std.proofs.Common.{List, ◌∷◌, Option, None, Some}
use Rattle.casa_flight.specs.Entry.{Offer, most_penalising}

-- the most penalising of the best offer so far, if there is one, and those behind it
abbrev pub most_from : Option Offer → List Offer → Option Offer
most_from None os = most_penalising os
most_from (Some best) os = most_penalising (best ∷ os)
