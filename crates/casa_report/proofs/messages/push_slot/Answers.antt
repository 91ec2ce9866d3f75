use Rattle.casa_report.proofs.Written.{slot_line}
use Rattle.casa_report.proofs.messages.push_slot.Goals as goal

pub returns : goal.returns
returns c =
    rw (← slot_line c.args.kind.now c.args.key.now c.args.reg.now c.args.ctot c.args.number)
    (rw (c.as_bytes.ensures, c.as_bytes-2.ensures.value, c.as_bytes-3.ensures) at c.in_ok-push_parts.ensures)
