use Rattle.casa_report.proofs.Written.{cancellation_line}
use Rattle.casa_report.proofs.messages.push_cancellation.Goals as goal

pub returns : goal.returns
returns c = rw (← cancellation_line c.args.key.now c.args.number) (rw c.as_bytes.ensures at c.in_ok-push_parts.ensures)
