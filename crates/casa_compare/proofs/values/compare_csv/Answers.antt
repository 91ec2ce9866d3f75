use Rattle.std.proofs.Common.{◌∙◌, ◌++◌, ◌+◌, ap, drop}
use Rattle.std.specs.List.{flat_map}
use Rattle.casa_report.specs.Csv.{record_line}
use Rattle.casa_report.proofs.Lines.{next_line}
use Rattle.casa_compare.specs.CompareCsv.{compare_csv, difference_fields}
use Rattle.casa_compare.proofs.values.compare_csv.Goals as goal

pub loop-flight-preserved : goal.loop-flight-preserved
loop-flight-preserved c =
    let flights = c.args.found.now.flights in
    let i = c.loop-flight.flight-index in
    let line = record_line (difference_fields c.args.day) in
    ap (λ t. t ++ flat_map line (drop (i + 1) flights)) c.in_ok-push_flight.ensures
    ∙ next_line line flights i c.flight-item.result c.loop-flight.text.items (compare_csv c.args.day c.args.found.now)
    (rw (c.as_slice-flight-items.ensures) at c.loop-flight-test.true) (rw (c.as_slice-flight-items.ensures) at c.flight-item.is) c.loop-flight.invariant
