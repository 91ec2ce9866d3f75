use Rattle.casa_wire.proofs.Behind.{both}
use Rattle.casa_look.proofs.Written.{whole_state_text}
use Rattle.casa_look.proofs.state.push_state.Goals as goal

pub returns : goal.returns
returns c =
    rw (← whole_state_text c.args.calls c.args.clock c.args.regulations.now)
    (both c.args.out.now.items c.push_parts.new.out.items c.push_text.new.out.items _ _
    (rw c.secs.ensures.value at c.in_ok-push_parts.ensures)
    (both c.push_parts.new.out.items c.push_array.new.out.items c.push_text.new.out.items _ _ c.in_ok-push_array.ensures c.in_ok-push_text.ensures))
