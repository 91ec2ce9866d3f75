use Rattle.std.proofs.Common.{sym, subst, ◌∙◌}
use Rattle.casa_flight.specs.Listing.{list_of}
use Rattle.casa_plan_spec.specs.Sight.{Sight}
use Rattle.casa_plan.specs.WholeLists.{AreAsShown}
use Rattle.casa_plan.proofs.Seen.{lists_of_each}
use Rattle.casa_plan.proofs.planning.plan_whole.Goals as goal

pub returns : goal.returns
returns g c =
    λ m good shows.
    let right = c.in_ok-reply.ensures m good shows in
    let as_shown : AreAsShown c.by.result (list_of m) =
    subst (λ (v : Sight). AreAsShown v (list_of m)) (sym c.by.ensures.shown) (lists_of_each g.V.Version.item_of c.args.view.now m shows) in
    (right.0, λ i. c.in_ok-settled.ensures.same (list_of m) as_shown i ∙ right.1 i)
