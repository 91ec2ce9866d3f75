use Rattle.std.proofs.Common.{◌≡◌, ℕ, List, sym, ap, subst, ◌∙◌}
use Rattle.std.proofs.lemmas.Result.{IfOk-weaker}
use Rattle.casa_filing.specs.Text.{Text}
use Rattle.casa_filing.specs.FlightPlan.{FlightPlan}
use Rattle.casa_filing.proofs.Same.{plan_same}
use Rattle.casa_footprint.specs.Finding.{crossed}
use Rattle.casa_item.specs.Versions.{regulations_of}
use Rattle.casa_view.specs.Seen.{AreCrossed}
use Rattle.casa_view.proofs.catalogue_seen.CatalogueSeen.crossed.Goals as goal

pub returns-then-eq : goal.returns-then-eq
returns-then-eq g c =
    let rs = regulations_of (g.V.Version.item_of c.args.self.now) in
    let items : List (FlightPlan × List (Text × ℕ)) = c.as_slice-known-items.result.now in
    let item : FlightPlan × List (Text × ℕ) = c.loop-known-item.result in
    let inside : AreCrossed rs c.self.inside.worked_out.items =
    subst (λ v. AreCrossed (regulations_of (g.V.Version.item_of v)) c.self.inside.worked_out.items) c.self.view_is c.self.invariant in
    let all : AreCrossed rs items = subst (AreCrossed rs) (sym c.as_slice-known-items.ensures.value) inside in
    let here : item.1 ≡ crossed item.0 rs =
    subst (λ (e : FlightPlan × List (Text × ℕ)). e.1 ≡ crossed e.0 rs) (sym c.loop-known-item.is)
    (all c.loop-known.known-index item c.loop-known-test.true) in
    let same : item.0 ≡ c.args.plan.now = plan_same item.0 c.args.plan.now (sym c.eq.ensures ∙ c.if-eq.true) in
    IfOk-weaker c.try_clone.result _ _ (λ copy is. is ∙ here ∙ ap (λ (plan : FlightPlan). crossed plan rs) same)
    c.try_clone.ensures
