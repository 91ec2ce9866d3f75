use Rattle.std.proofs.Common.{sym, subst}
use Rattle.std.proofs.lemmas.Result.{IfOk-weaker}
use Rattle.casa_plan_spec.specs.Sight.{IsSightOf}
use Rattle.casa_plan.proofs.Seen.{seen_of_each}
use Rattle.casa_plan.proofs.planning.plan.Goals as goal

pub returns : goal.returns
returns g c =
    let call = c.args.call.now in
    IfOk-weaker c.planned.result _ _
    (λ p is m good shown.
    is m good (subst (IsSightOf m call) (sym c.by.ensures.shown)
    (seen_of_each g.V.Version.item_of c.args.view.now call m c.requires.for_call c.by.ensures.ordered good shown)))
    c.planned.ensures
