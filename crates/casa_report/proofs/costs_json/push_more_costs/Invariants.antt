use Rattle.std.proofs.Common.{◌≡◌, ◌++◌, take}
use Rattle.casa_report.specs.Json.{cost_data}
use Rattle.casa_wire.specs.Parts.{more_text}
use Rattle.casa_report.proofs.costs_json.push_more_costs.Given as goal

abbrev pub invariant-loop-list : goal.invariant-loop-list
invariant-loop-list l = l.out.items ≡ l.fn.out.items ++ more_text cost_data (take l.list-index l.lists)
