use Rattle.casa_wire.proofs.Behind.{both}
use Rattle.casa_report.proofs.Written.{reasons_text}
use Rattle.casa_report.proofs.reasons_json.push_reasons.Goals as goal

pub returns : goal.returns
returns c =
    let end = c.push_parts.new.out.items in
    rw (← reasons_text c.args.day c.args.why.now c.args.exchanges.now)
    (both c.args.out.now.items c.push_day.new.out.items end _ _ c.in_ok-push_day.ensures
    (both c.push_day.new.out.items c.push_text.new.out.items end _ _ c.in_ok-push_text.ensures
    (both c.push_text.new.out.items c.push_array.new.out.items end _ _ c.in_ok-push_array.ensures
    (both c.push_array.new.out.items c.push_text-2.new.out.items end _ _ c.in_ok-push_text-2.ensures
    (both c.push_text-2.new.out.items c.push_flight.new.out.items end _ _ c.in_ok-push_flight.ensures
    (both c.push_flight.new.out.items c.push_text-3.new.out.items end _ _ c.in_ok-push_text-3.ensures
    (both c.push_text-3.new.out.items c.push_array-2.new.out.items end _ _ (rw c.as_slice.ensures at c.in_ok-push_array-2.ensures)
    (both c.push_array-2.new.out.items c.push_text-4.new.out.items end _ _ c.in_ok-push_text-4.ensures
    (both c.push_text-4.new.out.items c.push_array-3.new.out.items end _ _ (rw c.as_slice-2.ensures at c.in_ok-push_array-3.ensures) (rw (c.as_bytes.ensures.value, c.rule_name.ensures) at c.in_ok-push_parts.ensures))))))))))
