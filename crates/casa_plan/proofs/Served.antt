-- the competitors of a regulation have the places of first planned, first served
use Rattle.std.proofs.Common.{◌≡◌, ℕ, List, map, Option, None, Some, sym, subst}
use Rattle.std.specs.Prelude.{MatchOption, slice_get}
use Rattle.casa_flight.specs.declared.comp.Assigned.{Assigned}
use Rattle.casa_flight.specs.declared.state.State.{State}
use Rattle.casa_filing.specs.Text.{Text}
use Rattle.casa_flight.specs.Assignment.{IsRight}
use Rattle.casa_flight.specs.Listing.{Listing, list_of, competitors, occupancy, places}
use Rattle.casa_laws.proofs.Assignment.{assignment_right, comps-assignment}
use Rattle.casa_plan.specs.Rooms.{IsServedAs}

pub served_as : (m : State) (id : Text) (n : ℕ) (l : Listing) (answer : Option Assigned) → list_of m id ≡ Some l
    → answer ≡ slice_get (places l) n → IsServedAs m id n answer
served_as m id n l answer is_open is =
    subst (λ (o : Option Listing). MatchOption o (answer ≡ None)
    (λ (k : Listing). (all : List Assigned) × IsRight (occupancy k) all
    × (map (λ (a : Assigned). a.comp) all ≡ competitors k) × (answer ≡ slice_get all n))) (sym is_open)
    (places l, assignment_right (occupancy l) (competitors l), comps-assignment (occupancy l) (competitors l), is)
