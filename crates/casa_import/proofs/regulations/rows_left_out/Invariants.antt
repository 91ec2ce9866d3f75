use Rattle.std.proofs.Common.{◌≡◌, take}
use Rattle.std.specs.List.{filter_map}
use Rattle.casa_import.specs.Regulations.{left_out}
use Rattle.casa_import.proofs.regulations.rows_left_out.Given as goal

abbrev pub invariant-loop-row : goal.invariant-loop-row
invariant-loop-row l = l.all.items ≡ filter_map (left_out l.rows l.openings) (take l.row-index l.rows)
