-- what follows of what the types of calls keep
use Rattle.std.proofs.Common.{◌≡◌, ℕ, ◌≤◌, ◌<◌, ◌^◌, List, [], ◌∷◌, None, arith}
use Rattle.std.specs.List.{AllByRecursion}
use Rattle.std.proofs.lemmas.List.Elements.{recursion_from_All}
use Rattle.casa_time.specs.Moment.{last_moment}
use Rattle.casa_grid.specs.declared.period.Period.{Period}
use Rattle.casa_grid.specs.Profile.{highest_rate}
use Rattle.casa_grid.specs.ProfileFaults.{profile_fault}
use Rattle.casa_grid.proofs.Faults.{profile_fault-none}
use Rattle.casa_filing.specs.FlightPlan.{FlightPlan}
use Rattle.casa_filing.specs.PlanFaults.{plan_fault}
use Rattle.casa_filing.specs.declared.plan.Crossing.{Crossing}
use Rattle.casa_filing.proofs.PlanFaults.{plan_fault-none}
use Rattle.casa_wire.specs.Members.{greatest_number}
use Rattle.casa_lines.specs.Sayable.{IsName, IsMoment, IsPlan, IsProfileOfMoments}

-- each crossing is over a location, at a moment
abbrev pub Over : List Crossing → Type 0
Over via = AllByRecursion (λ (c : Crossing). IsName c.loc × IsMoment c.eto) via

pub over : (plan : FlightPlan) → IsPlan plan → Over plan.via
over plan is = recursion_from_All (λ (c : Crossing). IsName c.loc × IsMoment c.eto) plan.via is.crossings

pub no_plan_fault : (plan : FlightPlan) → IsPlan plan → plan_fault plan.key plan.eobt plan.taxi plan.via ≡ None
no_plan_fault plan is = plan_fault-none plan.key plan.eobt plan.taxi plan.via is.key is.valid

pub off_block : (plan : FlightPlan) → IsPlan plan → plan.eobt ≤ last_moment
off_block plan is = omega (arith, is.valid.in_range)

pub taxi_fits : (plan : FlightPlan) → IsPlan plan → plan.taxi ≤ greatest_number
taxi_fits plan is = omega (arith, is.valid.short_taxi)

-- each period is within moments, at a rate that is read
abbrev pub Within : List Period → Type 0
Within periods = AllByRecursion (λ (p : Period). (p.begin ≤ last_moment) × (p.until ≤ last_moment) × (p.rate ≤ greatest_number)) periods

both : (ps : List Period) → AllByRecursion (λ (p : Period). IsMoment p.begin × IsMoment p.until) ps → AllByRecursion (λ (p : Period). p.rate ≤ highest_rate) ps → Within ps
both [] moments rates = tt
both (p ∷ ps) moments rates = ((moments.0.0, moments.0.1, omega (arith, rates.0)), both ps moments.1 rates.1)

pub within : (periods : List Period) → IsProfileOfMoments periods → Within periods
within periods is =
    both periods (recursion_from_All (λ (p : Period). IsMoment p.begin × IsMoment p.until) periods is.moments)
    (recursion_from_All (λ (p : Period). p.rate ≤ highest_rate) periods is.profile.rates)

pub no_profile_fault : (periods : List Period) → IsProfileOfMoments periods → profile_fault periods ≡ None
no_profile_fault periods is = profile_fault-none periods is.profile

pub small : (n : ℕ) → n ≤ last_moment → n < 2 ^ 64
small n le = omega (arith, le)

pub number_small : (n : ℕ) → n ≤ greatest_number → n < 2 ^ 64
number_small n le = omega (arith, le)
