-- inner contracts: the regulations of a catalogue, and those that a plan crosses
use Rattle.std.specs.Prelude.{◌≡◌, ℕ, List, [], ◌∷◌, Bool, not, ◌&&◌, is_some, ◌++◌, if◌then◌else◌}
use Rattle.std.specs.Option.{option_map, option_map_or}
use Rattle.std.specs.List.{filter, filter_map, flat_map, list_any}
use Rattle.casa_filing.specs.declared.plan.Crossing.{Crossing}
use Rattle.casa_filing.specs.declared.regulation.Regulation.{Regulation}
use Rattle.std.specs.Cmp.Lexicographic.{slice_cmp}
use Rattle.std.specs.Ordering.{nat_cmp, is_lt}
use Rattle.casa_filing.specs.Text.{Text, same_text, at_name}
use Rattle.casa_filing.specs.FlightPlan.{FlightPlan}
use Rattle.casa_filing.specs.Subject.{covered, subject}
use Rattle.casa_flight.specs.Good.{AreInOrder}
use Rattle.casa_footprint.specs.Finding.{by_id}

-- regulations are listed in the order of their identifiers, each identifier once
abbrev pub AreListed : List Regulation → Type 0
AreListed rs = AreInOrder (by_id rs)

-- those whose identifiers come before this one, those after it, and those with another
abbrev pub before : Text → List Regulation → List Regulation
before id rs = filter (λ (r : Regulation). is_lt (slice_cmp nat_cmp r.id id)) rs

abbrev pub after : Text → List Regulation → List Regulation
after id rs = filter (λ (r : Regulation). is_lt (slice_cmp nat_cmp id r.id)) rs

abbrev pub others : Text → List Regulation → List Regulation
others id rs = filter (λ (r : Regulation). not (same_text r.id id)) rs

-- whether a plan is subject to a regulation with this identifier among these
abbrev pub meets : List Regulation → FlightPlan → Text → Bool
meets rs plan id = list_any (λ (r : Regulation). is_some (subject plan r) && same_text r.id id) rs

-- whether a regulation protects this location
abbrev pub is_over : Text → Regulation → Bool
is_over loc r = same_text r.loc loc

-- those at a location, by an index of lists
abbrev pub at_place : {V : Type 0} → (V → List Regulation) → List (Text × V) → Text → List Regulation
at_place items places loc = option_map_or items (at_name places loc) []

-- those of these regulations at its location that cover a crossing, with its time over
abbrev pub covering : List Regulation → Crossing → List (Text × ℕ)
covering rs c = filter_map (λ (r : Regulation). option_map (λ (eto : ℕ). (r.id, eto)) (covered r c)) rs

-- those that cover these crossings, one crossing after another
abbrev pub covering_along : (Text → List Regulation) → List Crossing → List (Text × ℕ)
covering_along place via = flat_map (λ (c : Crossing). covering (place c.loc) c) via

-- the places with one more regulation, behind those at its location
abbrev pub place_with : (Text → List Regulation) → Regulation → Text → List Regulation
place_with place r loc = if is_over loc r then place loc ++ r ∷ [] else place loc

-- an index by location has all regulations, in their order
abbrev pub HasPlaces : List Regulation → (Text → List Regulation) → Type 0
HasPlaces rs place = (loc : Text) → place loc ≡ filter (is_over loc) rs

-- a catalogue lists its regulations, and has such an index of them
pub record IsCatalogue (rs : List Regulation) (place : Text → List Regulation) : Type 0 where
  pub listed : AreListed rs
  pub places : HasPlaces rs place
