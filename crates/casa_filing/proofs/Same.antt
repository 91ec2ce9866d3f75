-- `==` of texts and plans is equality
use Rattle.std.proofs.Common.{◌≡◌, ℕ, List, true, rules}
use Rattle.std.proofs.lemmas.Bool.{and_parts, eqb-true}
use Rattle.casa_grid.proofs.Equal.{pointwise-true}
use Rattle.casa_filing.specs.FlightPlan.{FlightPlan}
use Rattle.casa_filing.specs.Text.{same_text}
use Rattle.casa_filing.specs.declared.plan.Crossing.{Crossing}
use Rattle.casa_filing.specs.declared.plan.Sts.{Sts}
use Rattle.casa_filing.specs.contracts.plan.CrossingPartialEq.TheImpl.{ghosts as crossing}
use Rattle.casa_filing.specs.contracts.plan.StsPartialEq.TheImpl.{ghosts as sts}
use Rattle.casa_filing.specs.PlanEquality.{plan_eq}

pub text_same : (a b : List ℕ) → same_text a b ≡ true → a ≡ b
text_same a b h = pointwise-true _ eqb-true a b h

pub crossing_same : (a b : Crossing) → crossing.eq a b ≡ true → a ≡ b
crossing_same a b h = search rules

pub sts_same : (a b : Sts) → sts.eq a b ≡ true → a ≡ b
sts_same a b h = search rules

pub plan_same : (a b : FlightPlan) → plan_eq a b ≡ true → a ≡ b
plan_same a b h =
    let p = and_parts _ _ h in
    let q = and_parts _ _ p.1 in
    let r = and_parts _ _ q.1 in
    let s = and_parts _ _ r.1 in
    let k : a.key ≡ b.key = text_same _ _ p.0 in
    let e : a.eobt ≡ b.eobt = eqb-true _ _ q.0 in
    let t : a.taxi ≡ b.taxi = eqb-true _ _ r.0 in
    let v : a.via ≡ b.via = pointwise-true _ crossing_same _ _ s.0 in
    let w : a.sts ≡ b.sts = sts_same _ _ s.1 in
    λ i. record { key = k i; eobt = e i; taxi = t i; via = v i; sts = w i }
