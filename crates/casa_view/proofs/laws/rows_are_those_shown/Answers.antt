use Rattle.casa_view.proofs.ViewRows.{rows-ordered, rows-shown}
use Rattle.casa_view.proofs.laws.rows_are_those_shown.Goals as goal

pub returns-clause-ordered : goal.returns-clause-ordered
returns-clause-ordered g c = λ v order. rows-ordered g.V.Version.item_of v.rows order

pub returns-clause-shown : goal.returns-clause-shown
returns-clause-shown g c = λ v key order. rows-shown g.V.Version.item_of v.rows key order
