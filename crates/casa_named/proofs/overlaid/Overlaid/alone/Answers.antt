use Rattle.std.proofs.Common.{◌∙◌}
use Rattle.casa_named.specs.Overlaid.{overlay, some_values}
use Rattle.casa_named.proofs.Merging.{overlaid-alone}
use Rattle.casa_named.proofs.overlaid.Overlaid.alone.Goals as goal

pub returns : goal.returns
returns g c =
    (λ i. overlay (c.iter.ensures.entries i) (some_values (c.none.ensures i)))
    ∙ overlaid-alone c.args.changes.now c.iter.ensures.ordered
