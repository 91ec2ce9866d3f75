use Rattle.std.proofs.Common.{rules, ◌≡◌, ◌∙◌, sym, ap, Some}
use Rattle.std.specs.Option.{option_copied}
use Rattle.casa_filing.specs.FlightPlan.{FlightPlan}
use Rattle.casa_filing.proofs.Same.{plan_same}
use Rattle.casa_footprint.specs.Finding.{crossed}
use Rattle.casa_plan_spec.specs.Write.{crossed_by}
use Rattle.casa_plan.proofs.write.keeps_plan.Goals as goal

pub returns-in-Some-Some : goal.returns-in-Some-Some
returns-in-Some-Some c =
    λ h all.
    let was = c.in-Some-Some.was.now in
    let now = c.in-Some-Some.now in
    let was_is : option_copied c.args.was ≡ Some was = search rules in
    let now_is : c.args.now.now ≡ Some now = search rules in
    ap (crossed_by all) was_is
    ∙ ap (λ (plan : FlightPlan). crossed plan all) (plan_same was.plan now.plan (sym c.eq.ensures ∙ h))
    ∙ sym (ap (crossed_by all) now_is)
