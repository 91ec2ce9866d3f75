use Rattle.std.proofs.Common.{◌≡◌, length}
use Rattle.casa_table.specs.Flights.{rows_named}
use Rattle.casa_view.proofs.rows.Rows.take.Given as goal

-- only names with no row were passed over
abbrev pub invariant-loop-key : goal.invariant-loop-key
invariant-loop-key g l = rows_named g.V.Version.item_of l.self-inside.held ≡ l.fn.self

abbrev pub decreases-loop-key : goal.decreases-loop-key
decreases-loop-key g l = length l.self-inside.held
