use Rattle.std.proofs.Common.{◌≡◌, ◌++◌, drop}
use Rattle.std.specs.List.{filter_map}
use Rattle.casa_flight.specs.Entry.{offer, situation}
use Rattle.casa_plain.proofs.plain.Plain.offers_of.Given as goal

abbrev pub invariant-loop-regulation : goal.invariant-loop-regulation
invariant-loop-regulation l =
    l.offers.items ++ filter_map (offer (situation l.self) l.key l.row.plan) (drop l.regulation-index l.regulations)
    ≡ filter_map (offer (situation l.self) l.key l.row.plan) l.regulations
