use Rattle.std.specs.Map.{keys_of}
use Rattle.casa_table.specs.Flights.{rows_of}
use Rattle.casa_table.proofs.Behind.{AreLeft}
use Rattle.casa_table.proofs.asking.Shared+OfFlight+V+FlightIndex.put_changed.Given as goal

abbrev pub invariant-loop-key : goal.invariant-loop-key
invariant-loop-key g l =
    AreLeft l.regulation (rows_of g.V.Version.item_of l.self) (keys_of l.key-iterator) (keys_of l.changes.entries)
    l.initial.flights.items l.flights.items
