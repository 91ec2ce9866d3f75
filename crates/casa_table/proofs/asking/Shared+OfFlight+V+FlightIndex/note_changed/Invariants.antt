use Rattle.std.proofs.Common.{◌≡◌}
use Rattle.std.specs.Map.{keys_of}
use Rattle.casa_item.proofs.Gathered.{gathered}
use Rattle.casa_table.specs.Asking.{due_version}
use Rattle.casa_table.proofs.asking.Shared+OfFlight+V+FlightIndex.note_changed.Given as goal

abbrev pub invariant-loop-key : goal.invariant-loop-key
invariant-loop-key g l =
    gathered (due_version g.V.Version.item_of l.at) l.self l.found.entries (keys_of l.key-iterator)
    ≡ gathered (due_version g.V.Version.item_of l.at) l.self l.initial.found.entries (keys_of l.changes.entries)
