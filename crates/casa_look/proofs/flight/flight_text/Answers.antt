use Rattle.std.proofs.Common.{[]}
use Rattle.casa_wire.proofs.Behind.{both}
use Rattle.casa_look.proofs.Written.{explained_text}
use Rattle.casa_look.proofs.flight.flight_text.Goals as goal

pub returns : goal.returns
returns c =
    let end = c.push_parts-2.new.out.items in
    rw (← explained_text c.args.calls c.args.plan.now c.args.why.now c.args.exchanges.now)
    (both [] c.push_text.new.out.items end _ _ (rw c.new-text.ensures.items at c.in_ok-push_text.ensures)
    (both c.push_text.new.out.items c.push_array.new.out.items end _ _ c.in_ok-push_array.ensures
    (both c.push_array.new.out.items c.push_text-2.new.out.items end _ _ c.in_ok-push_text-2.ensures
    (both c.push_text-2.new.out.items c.push_flight.new.out.items end _ _ c.in_ok-push_flight.ensures
    (both c.push_flight.new.out.items c.push_text-3.new.out.items end _ _ c.in_ok-push_text-3.ensures
    (both c.push_text-3.new.out.items c.push_array-2.new.out.items end _ _ (rw c.as_slice.ensures at c.in_ok-push_array-2.ensures)
    (both c.push_array-2.new.out.items c.push_parts.new.out.items end _ _ c.in_ok-push_parts.ensures
    (both c.push_parts.new.out.items c.push_array-3.new.out.items end _ _ (rw c.as_slice-2.ensures at c.in_ok-push_array-3.ensures)
    (both c.push_array-3.new.out.items c.push_text-4.new.out.items end _ _ c.in_ok-push_text-4.ensures
    (both c.push_text-4.new.out.items c.push_plan.new.out.items end _ _ c.in_ok-push_plan.ensures (rw (c.as_bytes.ensures.value, c.rule_name.ensures) at c.in_ok-push_parts-2.ensures)))))))))))
