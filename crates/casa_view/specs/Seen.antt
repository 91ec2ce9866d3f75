-- inner contracts: what a call has worked out of the catalogue that it sees
use Rattle.std.specs.Prelude.{◌≡◌, ℕ, List, All}
use Rattle.casa_filing.specs.declared.regulation.Regulation.{Regulation}
use Rattle.casa_filing.specs.Text.{Text}
use Rattle.casa_filing.specs.FlightPlan.{FlightPlan}
use Rattle.casa_footprint.specs.Finding.{crossed}

-- each of these plans crosses these of the regulations
abbrev pub AreCrossed : List Regulation → List (FlightPlan × List (Text × ℕ)) → Type 0
AreCrossed rs plans = All (λ (e : FlightPlan × List (Text × ℕ)). e.1 ≡ crossed e.0 rs) plans
