use Rattle.std.proofs.Common.{ap, ◌∙◌}
use Rattle.std.proofs.lemmas.Result.{IfOk-weaker}
use Rattle.casa_plan_spec.specs.TakingIn.{with_regulation}
use Rattle.casa_plan.proofs.TakenIn.{with_as}
use Rattle.casa_plan.proofs.taking_in.with_regulation.Goals as goal

pub returns-in-Some : goal.returns-in-Some
returns-in-Some g c =
    IfOk-weaker c.with.result _ _
    (λ all h. with_as all c.in-Some.catalogue.now c.args.regulation h ∙ ap (with_regulation c.args.regulation) c.in-Some.ensures) c.with.ensures

pub returns-in-None : goal.returns-in-None
returns-in-None g c =
    IfOk-weaker c.with-in-None.result _ _
    (λ all h. with_as all c.new.result c.args.regulation h ∙ ap (with_regulation c.args.regulation) (c.new.ensures ∙ c.in-None.ensures)) c.with-in-None.ensures
