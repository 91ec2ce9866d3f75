-- to believe: flight plans
use Rattle.std.specs.Prelude.{◌≡◌, ℕ, ◌+◌, ◌≤◌, List, All, AllPairs, length, Bool, true, false}
use Rattle.casa_filing.specs.declared.plan.Crossing.{Crossing}
use Rattle.casa_filing.specs.declared.plan.Sts.{Sts}
use Rattle.casa_filing.specs.declared.plan.Sts.TheVariants.{Plain}
use Rattle.casa_filing.specs.Text.{Text}
use Rattle.casa_time.specs.Moment.{last_moment}

-- a flight plan, as contracts see it: times over are handed in with it
pub record FlightPlan : Type 0 where
  pub key : Text
  pub eobt : ℕ
  pub taxi : ℕ
  pub via : List Crossing
  pub sts : Sts

-- the limits of a plan (profile)
abbrev pub longest_taxi : ℕ
longest_taxi = 3600

abbrev pub most_crossings : ℕ
most_crossings = 32

-- no location is crossed twice, none before the take-off, and the take-off is a moment (profile)
pub record IsValid (eobt taxi : ℕ) (via : List Crossing) : Type 0 where
  pub short_taxi : taxi ≤ longest_taxi
  pub few : length via ≤ most_crossings
  pub apart : AllPairs (λ a b. a.loc ≡ b.loc → ⊥) via
  pub later : All (λ c. eobt + taxi ≤ c.eto) via
  pub in_range : eobt + taxi ≤ last_moment

-- the estimated take-off time: off-block and taxi (manual)
abbrev pub etot : FlightPlan → ℕ
etot plan = plan.eobt + plan.taxi

-- whether the plan's indicator exempts the flight: HEAD, SAR, MEDEVAC, FFR, ATFMX (profile)
abbrev pub is_exempting : Sts → Bool
is_exempting Plain = false
is_exempting _ = true
