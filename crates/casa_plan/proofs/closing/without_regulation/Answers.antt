use Rattle.std.proofs.Common.{ap, ◌∙◌}
use Rattle.std.proofs.lemmas.Result.{IfOk-weaker}
use Rattle.casa_plan_spec.specs.Closing.{without_regulation}
use Rattle.casa_plan.proofs.Closed.{without_as}
use Rattle.casa_plan.proofs.closing.without_regulation.Goals as goal

pub returns-in-Some : goal.returns-in-Some
returns-in-Some g c =
    IfOk-weaker c.without.result _ _
    (λ all h. without_as all c.in-Some.catalogue.now c.args.id.now h ∙ ap (without_regulation c.args.id.now) c.in-Some.ensures) c.without.ensures
