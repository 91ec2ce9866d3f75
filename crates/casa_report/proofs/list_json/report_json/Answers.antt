use Rattle.std.proofs.Common.{[]}
use Rattle.casa_wire.proofs.Behind.{both}
use Rattle.casa_report.proofs.Written.{whole_report}
use Rattle.casa_report.proofs.list_json.report_json.Goals as goal

pub returns : goal.returns
returns c =
    let end = c.push_parts.new.out.items in
    rw (← whole_report c.args.day c.args.reg.now c.args.list.now)
    (both [] c.push_day.new.out.items end _ _ (rw c.new-text.ensures.items at c.in_ok-push_day.ensures)
    (both c.push_day.new.out.items c.push_text.new.out.items end _ _ c.in_ok-push_text.ensures
    (both c.push_text.new.out.items c.push_list.new.out.items end _ _ c.in_ok-push_list.ensures (rw c.as_bytes.ensures at c.in_ok-push_parts.ensures))))
