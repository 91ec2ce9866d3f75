use Rattle.std.proofs.Common.{[]}
use Rattle.casa_wire.proofs.Behind.{both}
use Rattle.casa_look.proofs.Written.{listed_text}
use Rattle.casa_look.proofs.list.list_text.Goals as goal

pub returns : goal.returns
returns c =
    rw (← listed_text c.args.calls c.args.list.now)
    (both [] c.push_text.new.out.items c.push_parts.new.out.items _ _
    (rw c.in_ok-text.ensures.items at c.in_ok-push_text.ensures)
    (both c.push_text.new.out.items c.push_list.new.out.items c.push_parts.new.out.items _ _ c.in_ok-push_list.ensures c.in_ok-push_parts.ensures))
