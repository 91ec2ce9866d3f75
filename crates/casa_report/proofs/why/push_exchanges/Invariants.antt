use Rattle.std.proofs.Common.{◌≡◌, ◌++◌, drop}
use Rattle.std.specs.List.{flat_map}
use Rattle.casa_report.specs.Columns.{shown_line}
use Rattle.casa_report.specs.WhyText.{exchange_columns, section}
use Rattle.casa_report.proofs.why.push_exchanges.Given as goal

abbrev pub invariant-loop-exchange : goal.invariant-loop-exchange
invariant-loop-exchange l =
    l.text.items ++ flat_map (shown_line exchange_columns) (drop l.exchange-index l.exchanges) ≡ l.fn.text.items ++ section exchange_columns l.exchanges
