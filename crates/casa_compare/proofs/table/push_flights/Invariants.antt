use Rattle.std.proofs.Common.{◌≡◌, ◌++◌, drop}
use Rattle.std.specs.List.{flat_map}
use Rattle.casa_report.specs.Columns.{shown_line}
use Rattle.casa_report.specs.WhyText.{section}
use Rattle.casa_compare.specs.CompareTable.{flight_columns}
use Rattle.casa_compare.proofs.table.push_flights.Given as goal

abbrev pub invariant-loop-flight : goal.invariant-loop-flight
invariant-loop-flight l =
    l.text.items ++ flat_map (shown_line flight_columns) (drop l.flight-index l.flights) ≡ l.fn.text.items ++ section flight_columns l.flights
