use Rattle.std.proofs.Common.{ap, sym, ◌∙◌}
use Rattle.casa_plan_spec.specs.Sight.{Sight, row_in}
use Rattle.casa_view.proofs.ViewRows.{rows-shown}
use Rattle.casa_plan.proofs.shown.Shown.row.Goals as goal

pub returns : goal.returns
returns g c =
    let key = c.args.key.now in
    c.row.ensures ∙ sym (rows-shown g.V.Version.item_of c.self.inside.view.now.rows key c.self.invariant)
    ∙ ap (λ (v : Sight). row_in v key) c.self.view_is
