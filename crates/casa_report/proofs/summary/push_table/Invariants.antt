use Rattle.std.proofs.Common.{◌≡◌, ◌++◌, drop}
use Rattle.std.specs.List.{flat_map}
use Rattle.casa_inquiry.specs.Summary.{cost_of_all}
use Rattle.casa_report.specs.SummaryTable.{regulation_line, summary_table, totals_line}
use Rattle.casa_report.proofs.summary.push_table.Given as goal

abbrev pub invariant-loop-list : goal.invariant-loop-list
invariant-loop-list l =
    l.text.items ++ (flat_map regulation_line (drop l.list-index l.lists) ++ totals_line (cost_of_all l.lists)) ≡ l.fn.text.items ++ summary_table l.lists
