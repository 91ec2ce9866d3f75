use Rattle.std.proofs.Common.{◌≡◌, ◌++◌}
use Rattle.casa_footprint.specs.Finding.{due_keys}
use Rattle.casa_table.specs.Flights.{rows_named}
use Rattle.casa_table.proofs.asking.due_named.Given as goal

abbrev pub invariant-loop-key : goal.invariant-loop-key
invariant-loop-key g l =
    l.keys.items ++ due_keys l.at (rows_named g.V.Version.item_of l.key-iterator)
    ≡ due_keys l.at (rows_named g.V.Version.item_of l.rows)
