use Rattle.casa_report.specs.Json.{cost_data}
use Rattle.casa_wire.proofs.Behind.{both, more_text-next}
use Rattle.casa_report.proofs.costs_json.push_more_costs.Goals as goal

pub loop-list-preserved : goal.loop-list-preserved
loop-list-preserved c =
    rw (more_text-next cost_data c.args.lists.now c.loop-list.list-index c.list-item.result c.loop-list-test.true c.list-item.is)
    (both c.args.out.now.items c.loop-list.out.items c.push_cost.new.out.items _ _ c.loop-list.invariant
    (both c.loop-list.out.items c.push_text.new.out.items c.push_cost.new.out.items _ _ c.in_ok-push_text.ensures c.in_ok-push_cost.ensures))
