use Rattle.std.proofs.Common.{◌≡◌, ◌++◌, drop}
use Rattle.std.specs.List.{flat_map}
use Rattle.casa_report.specs.Csv.{record_line}
use Rattle.casa_compare.specs.CompareCsv.{compare_csv, difference_fields}
use Rattle.casa_compare.proofs.values.compare_csv.Given as goal

abbrev pub invariant-loop-flight : goal.invariant-loop-flight
invariant-loop-flight l =
    l.text.items ++ flat_map (record_line (difference_fields l.day)) (drop l.flight-index l.found.flights) ≡ compare_csv l.day l.found
