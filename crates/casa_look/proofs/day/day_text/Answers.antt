use Rattle.std.proofs.Common.{[]}
use Rattle.casa_wire.proofs.Behind.{both}
use Rattle.casa_look.proofs.Written.{whole_day_text}
use Rattle.casa_look.proofs.day.day_text.Goals as goal

pub returns : goal.returns
returns c =
    let end = c.push_text-4.new.out.items in
    rw (← whole_day_text c.args.kept.now)
    (both [] c.push_parts.new.out.items end _ _ (rw (c.new-text.ensures.items, c.as_bytes.ensures.value, c.in_ok-day.ensures) at c.in_ok-push_parts.ensures)
    (both c.push_parts.new.out.items c.push_array.new.out.items end _ _ (rw c.as_slice.ensures at c.in_ok-push_array.ensures)
    (both c.push_array.new.out.items c.push_text.new.out.items end _ _ c.in_ok-push_text.ensures
    (both c.push_text.new.out.items c.push_array-2.new.out.items end _ _ (rw c.as_slice-2.ensures at c.in_ok-push_array-2.ensures)
    (both c.push_array-2.new.out.items c.push_text-2.new.out.items end _ _ c.in_ok-push_text-2.ensures
    (both c.push_text-2.new.out.items c.push_since.new.out.items end _ _ (rw c.as_slice-3.ensures at c.in_ok-push_since.ensures)
    (both c.push_since.new.out.items c.push_text-3.new.out.items end _ _ c.in_ok-push_text-3.ensures
    (both c.push_text-3.new.out.items c.push_state.new.out.items end _ _ (rw c.as_slice-4.ensures at c.in_ok-push_state.ensures) c.in_ok-push_text-4.ensures))))))))
