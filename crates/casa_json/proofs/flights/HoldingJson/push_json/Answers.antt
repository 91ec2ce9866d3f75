use Rattle.casa_wire.proofs.Behind.{both}
use Rattle.casa_json.proofs.Written.{holding_text}
use Rattle.casa_json.proofs.flights.HoldingJson.push_json.Goals as goal

pub returns : goal.returns
returns c =
    rw (← holding_text c.args.self.now)
    (both c.args.out.now.items c.push_parts.new.out.items c.push_parts-2.new.out.items _ _
    (rw c.secs.ensures.value at c.in_ok-push_parts.ensures)
    (both c.push_parts.new.out.items c.push_holder.new.out.items c.push_parts-2.new.out.items _ _ c.in_ok-push_holder.ensures c.in_ok-push_parts-2.ensures))
