use Rattle.std.proofs.Common.{[]}
use Rattle.casa_wire.proofs.Behind.{both}
use Rattle.casa_report.proofs.Written.{whole_load}
use Rattle.casa_report.proofs.list_json.load_json.Goals as goal

pub returns : goal.returns
returns c =
    let end = c.push_text.new.out.items in
    rw (← whole_load c.args.day c.args.reg.now c.args.load.now.steps.items)
    (both [] c.push_day.new.out.items end _ _ (rw c.new-text.ensures.items at c.in_ok-push_day.ensures)
    (both c.push_day.new.out.items c.push_parts.new.out.items end _ _ (rw c.as_bytes.ensures at c.in_ok-push_parts.ensures)
    (both c.push_parts.new.out.items c.push_array.new.out.items end _ _ (rw c.as_slice.ensures.value at c.in_ok-push_array.ensures) c.in_ok-push_text.ensures)))
