-- a valid plan is subject to a regulation where it crosses the location within the span, and only there
use Rattle.std.proofs.Common.{◌≡◌, ◌↔◌, ℕ, ◌<◌, ◌≤◌, zero, suc, List, [], ◌∷◌, length, get_or, true, false, cond, refl, sym, ap, ◌∙◌, subst, Option, None, Some, nat_lt, nat_le, arith}
use Rattle.std.specs.List.{AllPairs, Contains, find}
use Rattle.std.specs.Option.{option_and_then}
use Rattle.std.proofs.lemmas.Bool.{and_from, lt-ltb, le-leb}
use Rattle.std.proofs.lemmas.Cmp.{nat_list_eq_equiv}
use Rattle.std.proofs.lemmas.List.Elements.{Contains-append_right}
use Rattle.casa_filing.specs.declared.plan.Crossing.{Crossing}
use Rattle.casa_filing.specs.declared.regulation.Regulation.{Regulation}
use Rattle.casa_filing.specs.Text.{Text, same_text}
use Rattle.casa_filing.specs.FlightPlan.{FlightPlan, IsValid}
use Rattle.casa_filing.specs.Subject.{is_there, covered, subject}
use Rattle.casa_laws.proofs.Choice.{in_span}
use Rattle.casa_filing.proofs.Entries.{named}
use Rattle.casa_filing.proofs.PlanFaults.{later_apart, none_like}

-- what is found at a location is a crossing of the plan, and there
found_there : (loc : Text) (c : Crossing) (via : List Crossing) → find (is_there loc) via ≡ Some c → Contains via c × (c.loc ≡ loc)
found_there loc c [] h = cc
found_there loc c (d ∷ via) h =
    elim (same_text d.loc loc) as (λ b. same_text d.loc loc ≡ b → cond b (Some d) (find (is_there loc) via) ≡ Some c → Contains (d ∷ via) c × (c.loc ≡ loc)) [
      | true ↦ λ t f.
          let same : d ≡ c = cc in
          ((0, omega arith, same), subst (λ (x : Crossing). x.loc ≡ loc) same (named d.loc loc t))
      | false ↦ λ t f.
          let rest = found_there loc c via f in
          (Contains-append_right (d ∷ []) via c rest.0, rest.1)
    ] refl h

-- where no location is crossed twice, each crossing is the one that is found at its location
found_alone : (c : Crossing) (via : List Crossing) (k : ℕ) → AllPairs (λ (a b : Crossing). a.loc ≡ b.loc → ⊥) via → k < length via → get_or via k c ≡ c → find (is_there c.loc) via ≡ Some c
found_alone c [] k apart within here = absurd (omega (arith, within))
found_alone c (d ∷ via) zero apart within here =
    ap (λ b. cond b (Some d) (find (is_there c.loc) via)) (ap (λ (x : Crossing). same_text x.loc c.loc) here ∙ nat_list_eq_equiv.refl c.loc) ∙ ap Some here
found_alone c (d ∷ via) (suc k) apart within here =
    let inside : k < length via = omega (arith, within) in
    let other : same_text d.loc c.loc ≡ false = ap (λ (x : Crossing). same_text d.loc x.loc) (sym here) ∙ none_like d via apart k c inside in
    ap (λ b. cond b (Some d) (find (is_there c.loc) via)) other ∙ found_alone c via k (later_apart d via apart) inside here

pub subject_where : (plan : FlightPlan) (r : Regulation) (eto : ℕ) → IsValid plan.eobt plan.taxi plan.via
    → (subject plan r ≡ Some eto) ↔ (Contains plan.via (record { loc = r.loc; eto = eto }) × (r.start ≤ eto) × (eto < r.end))
subject_where plan r eto valid = (
  (λ h. by (find (is_there r.loc) plan.via) refl h),
  (λ h. from h.0 h.1 h.2),
)
  where
    there : Crossing
    there = record { loc = r.loc; eto = eto }

    by : (w : Option Crossing) → find (is_there r.loc) plan.via ≡ w → option_and_then (covered r) w ≡ Some eto → Contains plan.via there × (r.start ≤ eto) × (eto < r.end)
    by None found h = cc
    by (Some c) found h =
        let is = found_there r.loc c plan.via found in
        let span = in_span r c eto h in
        let same : c ≡ there = λ i. record { loc = is.1 i; eto = span.0 i } in
        (subst (Contains plan.via) same is.0, span.1, span.2)

    from : Contains plan.via there → r.start ≤ eto → eto < r.end → subject plan r ≡ Some eto
    from crosses start end =
        ap (option_and_then (covered r)) (found_alone there plan.via crosses.0 valid.apart crosses.1 crosses.2)
        ∙ ap (λ b. cond b (Some eto) None) (and_from (nat_le r.start eto) (nat_lt eto r.end) (le-leb r.start eto start) (lt-ltb eto r.end end))
