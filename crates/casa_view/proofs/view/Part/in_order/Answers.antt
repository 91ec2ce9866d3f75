use Rattle.std.proofs.Common.{sym, subst}
use Rattle.casa_flight.specs.Good.{AreInOrder}
use Rattle.casa_view.specs.Shown.{IsInOrder}
use Rattle.casa_table.proofs.Layers.{sorted-laid}
use Rattle.casa_view.proofs.view.Part.in_order.Goals as goal

pub returns-in-All : goal.returns-in-All
returns-in-All g c =
    let layers = c.layers-layers in
    subst (λ part. IsInOrder part) (sym c.in-All.is)
    (subst (λ es. AreInOrder es) layers.ensures.laid
    (sorted-laid layers.result.1.now.entries layers.result.0.now.entries layers.ensures.ordered.0))
