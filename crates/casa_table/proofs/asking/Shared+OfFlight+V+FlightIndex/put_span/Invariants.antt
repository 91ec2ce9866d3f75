use Rattle.casa_table.specs.Flights.{rows_of}
use Rattle.casa_table.specs.Passing.{in_span, names}
use Rattle.casa_table.proofs.Behind.{AreLeft}
use Rattle.casa_table.proofs.asking.Shared+OfFlight+V+FlightIndex.put_span.Given as goal

abbrev pub invariant-loop-passing : goal.invariant-loop-passing
invariant-loop-passing g l =
    AreLeft l.regulation (rows_of g.V.Version.item_of l.self) (names l.passing-iterator)
    (names (in_span l.regulation l.fn.end l.there.keys)) l.initial.flights.items l.flights.items
