use Rattle.std.proofs.Common.{[]}
use Rattle.casa_wire.proofs.Behind.{both}
use Rattle.casa_report.proofs.Written.{whole_reports}
use Rattle.casa_report.proofs.list_json.reports_json.Goals as goal

pub returns : goal.returns
returns c =
    let end = c.push_text-2.new.out.items in
    rw (← whole_reports c.args.day c.args.lists.now)
    (both [] c.push_day.new.out.items end _ _ (rw c.new-text.ensures.items at c.in_ok-push_day.ensures)
    (both c.push_day.new.out.items c.push_text.new.out.items end _ _ c.in_ok-push_text.ensures
    (both c.push_text.new.out.items c.push_array.new.out.items end _ _ c.in_ok-push_array.ensures c.in_ok-push_text-2.ensures)))
