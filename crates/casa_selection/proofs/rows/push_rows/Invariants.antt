use Rattle.std.proofs.Common.{◌≡◌, ◌++◌, map, take}
use Rattle.casa_flight.specs.declared.reply.ListRow.{ListRow}
use Rattle.casa_selection.specs.declared.rows.ReportRow.{ReportRow}
use Rattle.casa_selection.proofs.rows.push_rows.Given as goal

abbrev pub invariant-loop-row : goal.invariant-loop-row
invariant-loop-row l =
    l.rows.items ≡ l.fn.rows.items ++ map (λ (row : ListRow). record { reg = l.list.reg; row = row }) (take l.row-index l.list.rows)
