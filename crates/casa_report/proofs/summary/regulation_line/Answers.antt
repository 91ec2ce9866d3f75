use Rattle.std.proofs.Common.{◌∙◌, ap}
use Rattle.casa_time.specs.Hhmm.{hhmm}
use Rattle.casa_report.specs.SummaryTable.{cost_line}
use Rattle.casa_report.proofs.summary.regulation_line.Goals as goal

pub returns : goal.returns
returns c =
    let start = c.hhmm-start.ensures ∙ ap hhmm c.secs.ensures.value in
    let end = c.hhmm-end.ensures ∙ ap hhmm c.secs-2.ensures.value in
    c.cost_line.ensures ∙ (λ i. cost_line (record {
      reg = c.as_bytes.ensures i;
      loc = c.as_bytes-2.ensures i;
      start = start i;
      end = end i;
      cost = c.of.ensures i;
    }))
