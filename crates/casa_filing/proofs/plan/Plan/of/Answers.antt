use Rattle.std.proofs.Common.{◌≡◌, None, sym, ap, ◌∙◌}
use Rattle.casa_filing.specs.PlanFaults.{plan_fault}
use Rattle.casa_filing.proofs.PlanFaults.{is_valid}
use Rattle.casa_filing.proofs.plan.Plan.of.Goals as goal

pub invariant_of-result : goal.invariant_of-result
invariant_of-result c =
    let faultless : plan_fault c.args.key.now c.args.eobt c.args.taxi c.args.via.items ≡ None =
    ap (plan_fault c.args.key.now c.args.eobt c.args.taxi) (sym c.deref.ensures.value) ∙ sym c.first_fault.ensures ∙ c.in_default.is in
    rw c.in-Ok.ensures (is_valid c.args.key.now c.args.eobt c.args.taxi c.args.via.items faultless)
