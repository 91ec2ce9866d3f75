use Rattle.std.proofs.Common.{◌≡◌, true, subst}
use Rattle.casa_flight.specs.declared.row.Row.{Row}
use Rattle.casa_flight.specs.contracts.row.RowPartialEq.TheImpl.{ghosts as row}
use Rattle.casa_flight.specs.contracts.row.RowEq.TheImpl.Laws.{laws-law}
use Rattle.casa_flight.proofs.SameRow.{row_same}
use Rattle.casa_flight.proofs.equality.row_equality.Goals as goal

pub returns : goal.returns
returns c = λ a b. (row_same a b, λ e. subst (λ (z : Row). row.eq a z ≡ true) e (laws-law.refl a))
