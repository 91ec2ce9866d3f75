-- inner contracts: what `==` of plans computes
use Rattle.std.specs.Prelude.{Bool, ◌==◌, ◌&&◌}
use Rattle.std.specs.Cmp.Lexicographic.{pointwise}
use Rattle.std.specs.Cmp.{IsEquivalence, and_equiv, on_equiv, nat_eq_equiv}
use Rattle.std.proofs.lemmas.Cmp.{lists_equiv, nat_list_eq_equiv}
use Rattle.casa_filing.specs.FlightPlan.{FlightPlan}
use Rattle.casa_filing.specs.Text.{same_text}
use Rattle.casa_filing.specs.contracts.plan.CrossingPartialEq.TheImpl.{ghosts as crossing}
use Rattle.casa_filing.specs.contracts.plan.CrossingEq.TheImpl.Laws.{laws-law as crossing_laws}
use Rattle.casa_filing.specs.contracts.plan.StsPartialEq.TheImpl.{ghosts as sts}
use Rattle.casa_filing.specs.contracts.plan.StsEq.TheImpl.Laws.{laws-law as sts_laws}

-- what `==` of plans computes; a law says that it is equality
abbrev pub plan_eq : FlightPlan → FlightPlan → Bool
plan_eq a b = same_text a.key b.key && (a.eobt == b.eobt && (a.taxi == b.taxi && (pointwise crossing.eq a.via b.via && sts.eq a.sts b.sts)))

pub plan_eq_laws : IsEquivalence plan_eq
plan_eq_laws =
    and_equiv (on_equiv (λ (p : FlightPlan). p.key) nat_list_eq_equiv)
    (and_equiv (on_equiv (λ (p : FlightPlan). p.eobt) nat_eq_equiv)
    (and_equiv (on_equiv (λ (p : FlightPlan). p.taxi) nat_eq_equiv)
    (and_equiv (on_equiv (λ (p : FlightPlan). p.via) (lists_equiv crossing_laws))
    (on_equiv (λ (p : FlightPlan). p.sts) sts_laws))))
