use Rattle.std.proofs.Common.{◌≡◌, drop}
use Rattle.casa_flight.specs.Entry.{most_penalising}
use Rattle.casa_flight.proofs.Offers.{most_from}
use Rattle.casa_plan_spec.specs.Sight.{list_with}
use Rattle.casa_plan_spec.specs.OneFlight.{offers_of}
use Rattle.casa_plan.proofs.one_flight.best_offer.Given as goal

abbrev pub invariant-loop-id : goal.invariant-loop-id
invariant-loop-id g l =
    most_from l.best (offers_of (list_with l.view l.draft) l.key (drop l.id-index l.id-items))
    ≡ most_penalising (offers_of (list_with l.view l.draft) l.key l.over)
