use Rattle.std.proofs.Common.{◌≡◌, ◌++◌, take}
use Rattle.std.specs.List.{flat_map}
use Rattle.casa_traffic.specs.Told.{row_line}
use Rattle.casa_traffic.proofs.telling.push_rows_of.Given as goal

abbrev pub invariant-loop-row : goal.invariant-loop-row
invariant-loop-row l = l.text.items ≡ l.fn.text.items ++ flat_map (row_line l.sheet) (take l.row-index l.left_out)
