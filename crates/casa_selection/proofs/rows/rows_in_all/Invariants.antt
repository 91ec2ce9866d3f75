use Rattle.std.proofs.Common.{◌≡◌, take}
use Rattle.casa_selection.specs.Rows.{rows_in_all}
use Rattle.casa_selection.proofs.rows.rows_in_all.Given as goal

abbrev pub invariant-loop-list : goal.invariant-loop-list
invariant-loop-list l = l.rows.items ≡ rows_in_all (take l.list-index l.lists)
