use Rattle.std.proofs.Common.{ap, sym, ◌∙◌}
use Rattle.casa_plan_spec.specs.Sight.{Sight, list_in}
use Rattle.casa_view.proofs.ViewLists.{lists-shown}
use Rattle.casa_plan.proofs.shown.Shown.list.Goals as goal

pub returns : goal.returns
returns g c =
    let id = c.args.id.now in
    c.list.ensures ∙ sym (lists-shown g.V.Version.item_of c.self.inside.view.now.lists id)
    ∙ ap (λ (v : Sight). list_in v id) c.self.view_is
