use Rattle.std.proofs.Common.{◌∙◌, ◌++◌, ◌+◌, ap, drop}
use Rattle.std.specs.List.{flat_map}
use Rattle.casa_report.specs.Csv.{record_line}
use Rattle.casa_report.proofs.Lines.{next_line}
use Rattle.casa_report.proofs.csv.push_records.Goals as goal

pub loop-record-preserved : goal.loop-record-preserved
loop-record-preserved g c =
    let records = c.args.records.now in
    let i = c.loop-record.record-index in
    let line = record_line (g.T.Record.fields c.args.day) in
    ap (λ t. t ++ flat_map line (drop (i + 1) records)) c.in_ok-push.ensures
    ∙ next_line line records i c.record-item.result c.loop-record.out.items (c.args.out.now.items ++ flat_map line records) c.loop-record-test.true c.record-item.is c.loop-record.invariant
