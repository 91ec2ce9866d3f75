use Rattle.std.proofs.Common.{subst}
use Rattle.casa_flight.specs.Good.{AreInOrder}
use Rattle.casa_plan_spec.specs.Sight.{Sight}
use Rattle.casa_view.proofs.ViewRows.{rows-ordered}
use Rattle.casa_plan.proofs.shown.Shown.flights_over.Goals as goal

pub returns-clause-ordered : goal.returns-clause-ordered
returns-clause-ordered g c =
    subst (λ (v : Sight). AreInOrder v.rows) c.self.view_is (rows-ordered g.V.Version.item_of c.self.inside.view.now.rows c.self.invariant)
