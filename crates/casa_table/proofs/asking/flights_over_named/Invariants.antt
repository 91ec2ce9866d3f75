use Rattle.std.proofs.Common.{◌≡◌, Some}
use Rattle.std.specs.List.{AllByRecursion}
use Rattle.std.specs.Map.{keys_of}
use Rattle.casa_filing.specs.Text.{at_name}
use Rattle.casa_table.specs.Flights.{rows_named}
use Rattle.casa_table.proofs.Behind.{AreLeft}
use Rattle.casa_table.proofs.asking.flights_over_named.Given as goal

abbrev pub invariant-loop-key : goal.invariant-loop-key
invariant-loop-key g l =
    AreLeft l.regulation (rows_named g.V.Version.item_of l.rows) (keys_of l.key-iterator) (keys_of l.rows)
    l.initial.flights.items l.flights.items
    × AllByRecursion (λ e. at_name l.rows e.0 ≡ Some e.1) l.key-iterator
