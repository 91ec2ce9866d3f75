use Rattle.std.proofs.Common.{◌≡◌, ◌++◌, drop}
use Rattle.std.specs.List.{flat_map}
use Rattle.casa_report.specs.Table.{report_table, row_line}
use Rattle.casa_report.proofs.table.report_table.Given as goal

abbrev pub invariant-loop-row : goal.invariant-loop-row
invariant-loop-row l =
    l.text.items ++ flat_map (row_line l.reg) (drop l.row-index l.rows) ≡ l.fn.text.items ++ report_table l.reg l.rows
