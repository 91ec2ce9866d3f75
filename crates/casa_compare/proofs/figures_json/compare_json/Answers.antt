use Rattle.std.proofs.Common.{[]}
use Rattle.casa_wire.proofs.Behind.{both}
use Rattle.casa_compare.proofs.Texts.{whole_compare}
use Rattle.casa_compare.proofs.figures_json.compare_json.Goals as goal

pub returns : goal.returns
returns c =
    let end = c.push_text-3.new.out.items in
    rw (← whole_compare c.args.day c.args.found.now)
    (both [] c.push_text.new.out.items end _ _ (rw c.new-text.ensures.items at c.in_ok-push_text.ensures)
    (both c.push_text.new.out.items c.push_totals.new.out.items end _ _ c.in_ok-push_totals.ensures
    (both c.push_totals.new.out.items c.push_parts.new.out.items end _ _ (rw (c.as_bytes.ensures.value, c.in_ok-date.ensures) at c.in_ok-push_parts.ensures)
    (both c.push_parts.new.out.items c.push_flights.new.out.items end _ _ (rw c.as_slice.ensures at c.in_ok-push_flights.ensures)
    (both c.push_flights.new.out.items c.push_text-2.new.out.items end _ _ c.in_ok-push_text-2.ensures
    (both c.push_text-2.new.out.items c.push_totals-2.new.out.items end _ _ c.in_ok-push_totals-2.ensures c.in_ok-push_text-3.ensures))))))
