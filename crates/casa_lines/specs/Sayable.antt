-- to believe: what the type of a call keeps
use Rattle.std.specs.Prelude.{◌≡◌, ℕ, ◌≤◌, List, All, true}
use Rattle.casa_time.specs.Moment.{last_moment}
use Rattle.casa_grid.specs.declared.period.Period.{Period}
use Rattle.casa_grid.specs.Profile.{IsProfile}
use Rattle.casa_filing.specs.Text.{Text, is_name}
use Rattle.casa_filing.specs.FlightPlan.{FlightPlan, IsValid}
use Rattle.casa_filing.specs.declared.plan.Crossing.{Crossing}
use Rattle.casa_flight.specs.declared.call.Call.{Call}
use Rattle.casa_flight.specs.declared.call.Call.TheVariants.{File, Amend, Cancel, Revise, Exempt, Show, OpenReg, CloseReg, Rates, List as Listing, Tick, Swap}

-- a name is one, as of a flight, a location or a regulation
abbrev pub IsName : Text → Type 0
IsName text = is_name text ≡ true

abbrev pub IsMoment : ℕ → Type 0
IsMoment at = at ≤ last_moment

-- the plan is valid, under a name, and each crossing is of a location at a moment
pub record IsPlan (plan : FlightPlan) : Type 0 where
  pub key : IsName plan.key
  pub valid : IsValid plan.eobt plan.taxi plan.via
  pub crossings : All (λ (c : Crossing). IsName c.loc × IsMoment c.eto) plan.via

-- the periods are those of a profile, and begin and end at moments
pub record IsProfileOfMoments (periods : List Period) : Type 0 where
  pub profile : IsProfile periods
  pub moments : All (λ (p : Period). IsMoment p.begin × IsMoment p.until) periods

-- a call as its type keeps it: its names, moments, plan and profile are what they are called
abbrev pub IsSayable : Call → Type 0
IsSayable (File plan) = IsPlan plan
IsSayable (Amend plan) = IsPlan plan
IsSayable (Cancel key) = IsName key
IsSayable (Revise key) = IsName key
IsSayable (Exempt key) = IsName key
IsSayable (Show key) = IsName key
IsSayable (OpenReg reg loc periods) = IsName reg × IsName loc × IsProfileOfMoments periods
IsSayable (CloseReg reg) = IsName reg
IsSayable (Rates reg periods) = IsName reg × IsProfileOfMoments periods
IsSayable (Listing reg) = IsName reg
IsSayable (Tick at) = IsMoment at
IsSayable (Swap key other) = IsName key × IsName other
