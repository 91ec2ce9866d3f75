-- to believe: the ways to serve the competitors of a list, what a way costs them, and what a flight waits
use Rattle.std.specs.Prelude.{◌≡◌, ℕ, ◌+◌, ◌-◌, ◌≤◌, List, map, Bool, true, false, nat_lt, sum_by, count_by}
use Rattle.std.specs.List.{All, AllPairs}
use Rattle.std.specs.Option.{option_map_or}
use Rattle.casa_grid.specs.declared.slot.Place.{Place}
use Rattle.casa_grid.specs.declared.slot.Place.TheVariants.{Slot, Over}
use Rattle.casa_grid.specs.Profile.{end_of}
use Rattle.casa_grid.specs.Slots.{slots}
use Rattle.casa_grid.specs.TimeOver.{cto}
use Rattle.casa_flight.specs.declared.comp.Assigned.{Assigned}
use Rattle.casa_filing.specs.Text.{Text}
use Rattle.casa_flight.specs.declared.state.State.{State}
use Rattle.casa_flight.specs.Assignment.{Occupancy, is_open}
use Rattle.casa_flight.specs.Listing.{Listing, occupancy, competitors, delay_of}
use Rattle.casa_flight.specs.State.{row_of}

-- a flight may have a slot that is open to it, and may always be over
abbrev pub MayHave : Occupancy → ℕ → Place → Type 0
MayHave o eto (Slot k) = is_open o eto k ≡ true
MayHave o eto Over = Unit {0}

-- two flights may both be over, but they do not share a slot
abbrev pub AreApart : Place → Place → Type 0
AreApart (Slot j) (Slot k) = j ≡ k → ⊥
AreApart (Slot j) Over = Unit {0}
AreApart Over q = Unit {0}

-- a way to serve the competitors of a list, whichever rule it follows: around the issued flights each competitor has a
-- slot that is open to it, or is over, and no two have the same slot
pub record IsAllowed (l : Listing) (all : List Assigned) : Type 0 where
  pub whose : map (λ (a : Assigned). a.comp) all ≡ competitors l
  pub may_have : All (λ (a : Assigned). MayHave (occupancy l) a.comp.eto a.place) all
  pub apart : AllPairs (λ (a b : Assigned). AreApart a.place b.place) all

-- how long a place in the list delays the flight that has it
abbrev pub delay_at : Listing → Assigned → ℕ
delay_at l a = cto (slots l.profile) (end_of l.profile) a.comp.eto a.place - a.comp.eto

abbrev pub total_delay : Listing → List Assigned → ℕ
total_delay l all = sum_by (delay_at l) all

-- all delay beyond a threshold, summed up
abbrev pub delay_beyond : ℕ → Listing → List Assigned → ℕ
delay_beyond t l all = sum_by (λ (a : Assigned). delay_at l a - t) all

abbrev pub is_over : Place → Bool
is_over (Slot k) = false
is_over Over = true

abbrev pub over_count : List Assigned → ℕ
over_count all = count_by (λ (a : Assigned). is_over a.place) all

abbrev pub delayed_count : Listing → List Assigned → ℕ
delayed_count l all = count_by (λ (a : Assigned). nat_lt 0 (delay_at l a)) all

-- what a delay costs: a longer one no less, and each further second no less than the one before it
pub record IsCost (cost : ℕ → ℕ) : Type 0 where
  pub rises : (d : ℕ) → cost d ≤ cost (d + 1)
  pub steepens : (d : ℕ) → cost (d + 1) + cost (d + 1) ≤ cost d + cost (d + 2)

abbrev pub total_cost : (ℕ → ℕ) → Listing → List Assigned → ℕ
total_cost cost l all = sum_by (λ (a : Assigned). cost (delay_at l a)) all

-- the delay of the flight under a key; none where there is no such flight
abbrev pub flight_delay : State → Text → ℕ
flight_delay m key = option_map_or (delay_of m key) (row_of m key) 0

-- a place is no later than another: slots by their number, and over behind them all
abbrev pub IsNoLater : Place → Place → Type 0
IsNoLater (Slot j) (Slot k) = j ≤ k
IsNoLater Over (Slot k) = ⊥
IsNoLater p Over = Unit {0}
