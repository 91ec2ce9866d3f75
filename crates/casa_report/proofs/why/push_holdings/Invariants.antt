use Rattle.std.proofs.Common.{◌≡◌, ◌++◌, drop}
use Rattle.std.specs.List.{flat_map}
use Rattle.casa_report.specs.Columns.{shown_line}
use Rattle.casa_report.specs.WhyText.{holding_columns, section}
use Rattle.casa_report.proofs.why.push_holdings.Given as goal

abbrev pub invariant-loop-holding : goal.invariant-loop-holding
invariant-loop-holding l =
    l.text.items ++ flat_map (shown_line holding_columns) (drop l.holding-index l.holdings) ≡ l.fn.text.items ++ section holding_columns l.holdings
