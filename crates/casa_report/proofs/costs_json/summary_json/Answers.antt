use Rattle.std.proofs.Common.{[]}
use Rattle.casa_wire.proofs.Behind.{both}
use Rattle.casa_report.proofs.Written.{whole_summary}
use Rattle.casa_report.proofs.costs_json.summary_json.Goals as goal

pub returns : goal.returns
returns c =
    let end = c.push_text-2.new.out.items in
    rw (← whole_summary c.args.day c.args.lists.now)
    (both [] c.push_day.new.out.items end _ _ (rw c.new-text.ensures.items at c.in_ok-push_day.ensures)
    (both c.push_day.new.out.items c.push_text.new.out.items end _ _ c.in_ok-push_text.ensures
    (both c.push_text.new.out.items c.push_costs.new.out.items end _ _ c.in_ok-push_costs.ensures c.in_ok-push_text-2.ensures)))
