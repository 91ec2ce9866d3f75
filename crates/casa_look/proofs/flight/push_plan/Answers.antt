use Rattle.casa_wire.proofs.Behind.{both}
use Rattle.casa_look.proofs.Written.{plan_text}
use Rattle.casa_look.proofs.flight.push_plan.Goals as goal

pub returns : goal.returns
returns c =
    rw (← plan_text c.args.plan.now)
    (both c.args.out.now.items c.push_parts.new.out.items c.push_text.new.out.items _ _
    (rw (c.secs.ensures.value, c.eobt.ensures, c.as_bytes.ensures, c.requires, c.status_or_null.ensures, c.sts.ensures, c.taxi.ensures) at c.in_ok-push_parts.ensures)
    (both c.push_parts.new.out.items c.push_array.new.out.items c.push_text.new.out.items _ _
    (rw c.via.ensures.crossings at c.in_ok-push_array.ensures) c.in_ok-push_text.ensures))
