use Rattle.casa_report.specs.Json.{cost_data}
use Rattle.casa_wire.proofs.Behind.{both, list_text}
use Rattle.casa_report.proofs.costs_json.push_costs.Goals as goal

pub returns : goal.returns
returns c =
    rw (c.in-Some.ensures.cases.0, ← list_text cost_data c.in-Some.first.now c.in-Some.rest.now)
    (both c.args.out.now.items c.push_cost.new.out.items c.push_text-3.new.out.items _ _
    (both c.args.out.now.items c.push_text-2.new.out.items c.push_cost.new.out.items _ _ c.in_ok-push_text-2.ensures c.in_ok-push_cost.ensures)
    (both c.push_cost.new.out.items c.push_more_costs.new.out.items c.push_text-3.new.out.items _ _ c.in_ok-push_more_costs.ensures c.in_ok-push_text-3.ensures))
