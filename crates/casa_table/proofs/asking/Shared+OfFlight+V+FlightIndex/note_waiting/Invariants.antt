use Rattle.std.proofs.Common.{◌≡◌}
use Rattle.casa_item.proofs.Gathered.{gathered}
use Rattle.casa_table.specs.Asking.{due_version}
use Rattle.casa_table.proofs.Due.{first_due}
use Rattle.casa_table.proofs.asking.Shared+OfFlight+V+FlightIndex.note_waiting.Given as goal

abbrev pub invariant-loop-departure : goal.invariant-loop-departure
invariant-loop-departure g l =
    gathered (due_version g.V.Version.item_of l.at) l.self l.found.entries (first_due l.at l.departure-iterator)
    ≡ gathered (due_version g.V.Version.item_of l.at) l.self l.initial.found.entries
    (first_due l.at l.departures.keys)
