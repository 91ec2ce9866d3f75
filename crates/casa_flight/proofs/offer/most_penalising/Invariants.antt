use Rattle.std.proofs.Common.{◌≡◌, drop}
use Rattle.casa_flight.specs.Entry.{most_penalising}
use Rattle.casa_flight.proofs.Offers.{most_from}
use Rattle.casa_flight.proofs.offer.most_penalising.Given as goal

abbrev pub invariant-loop-offer : goal.invariant-loop-offer
invariant-loop-offer l = most_from l.best (drop l.offer-index l.offers) ≡ most_penalising l.offers
