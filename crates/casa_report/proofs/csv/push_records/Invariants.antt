use Rattle.std.proofs.Common.{◌≡◌, ◌++◌, drop}
use Rattle.std.specs.List.{flat_map}
use Rattle.casa_report.specs.Csv.{record_line}
use Rattle.casa_report.proofs.csv.push_records.Given as goal

abbrev pub invariant-loop-record : goal.invariant-loop-record
invariant-loop-record g l =
    l.out.items ++ flat_map (record_line (g.T.Record.fields l.day)) (drop l.record-index l.records)
    ≡ l.fn.out.items ++ flat_map (record_line (g.T.Record.fields l.day)) l.records
