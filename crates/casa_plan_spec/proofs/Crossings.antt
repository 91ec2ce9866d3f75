-- the regulations to which a plan is subject: look-ups, order, and the offers that they make
use Rattle.std.proofs.Common.{◌≡◌, ℕ, List, [], ◌∷◌, refl, ap, subst, sym, ◌∙◌, Option, None, Some}
use Rattle.std.specs.Option.{option_map, option_and_then}
use Rattle.std.specs.List.{filter_map, cons_option}
use Rattle.std.specs.List.Sorted.{IsStrictlySortedBy}
use Rattle.casa_filing.specs.declared.regulation.Regulation.{Regulation}
use Rattle.casa_filing.specs.declared.regulation.Measure.{Measure}
use Rattle.casa_flight.specs.declared.row.Row.{Row}
use Rattle.casa_flight.specs.declared.state.State.{State}
use Rattle.casa_filing.specs.Text.{Text, at_name}
use Rattle.casa_filing.specs.FlightPlan.{FlightPlan}
use Rattle.casa_filing.specs.Subject.{regulation, subject}
use Rattle.casa_flight.specs.State.{measure_of, catalogue}
use Rattle.casa_flight.specs.Listing.{Listing}
use Rattle.casa_flight.specs.Entry.{Situation, Offer, offer_in, offer, choice, most_penalising}
use Rattle.casa_flight.specs.Good.{AreInOrder}
use Rattle.casa_filing.proofs.Entries.{filter_map-map}
use Rattle.casa_footprint.specs.Finding.{crossed}
use Rattle.casa_plan_spec.specs.Sight.{Sight, regulations_in, situation_in}
use Rattle.casa_plan_spec.specs.OneFlight.{offers_of, best_offer}
use Rattle.casa_plan_spec.specs.Write.{crossed_by}
use Rattle.casa_laws.proofs.Kept.{kept_by, at-kept_by, sorted-kept_by}

-- in a state they are kept of the open regulations, by name
crossed_open : (m : State) (plan : FlightPlan) → crossed plan (catalogue m) ≡ kept_by (λ id measure. subject plan (regulation id measure)) m.regs
crossed_open m plan =
    filter_map-map (λ (r : Regulation). option_map (λ (eto : ℕ). (r.id, eto)) (subject plan r)) (λ (e : Text × Measure). regulation e.0 e.1) m.regs

-- the time over of a flight, if there is one, over the regulation that is open under an identifier, if there is one
abbrev pub time_over : Text → Option Measure → Option Row → Option ℕ
time_over id None row = None
time_over id (Some measure) row = option_and_then (λ (f : Row). subject f.plan (regulation id measure)) row

time_none : (id : Text) (f : Row) (w : Option Measure) → option_and_then (λ (measure : Measure). subject f.plan (regulation id measure)) w ≡ time_over id w (Some f)
time_none id f None = refl
time_none id f (Some measure) = refl

no_flight : (id : Text) (w : Option Measure) → None ≡ time_over id w None
no_flight id None = refl
no_flight id (Some measure) = refl

pub at-crossed : (m : State) (row : Option Row) (id : Text) → AreInOrder m.regs → at_name (crossed_by (catalogue m) row) id ≡ time_over id (measure_of m id) row
at-crossed m None id sorted = no_flight id (measure_of m id)
at-crossed m (Some f) id sorted =
    ap (λ es. at_name es id) (crossed_open m f.plan)
    ∙ at-kept_by (λ id measure. subject f.plan (regulation id measure)) id m.regs sorted
    ∙ time_none id f (measure_of m id)

pub sorted-crossed : (m : State) (row : Option Row) → AreInOrder m.regs → AreInOrder (crossed_by (catalogue m) row)
unfolding IsStrictlySortedBy
sorted-crossed m None sorted = tt
sorted-crossed m (Some f) sorted =
    subst (λ es. AreInOrder es) (sym (crossed_open m f.plan)) (sorted-kept_by (λ id measure. subject f.plan (regulation id measure)) m.regs sorted)

-- what a regulation offers, by whether the flight is subject to it
offer_if : (id key : Text) (l : Option Listing) (lists : Text → Option Listing) (w : Option ℕ) (os : List Offer) (over : List (Text × ℕ)) → lists id ≡ l → os ≡ offers_of lists key over
    → cons_option (offer_in id key l w) os ≡ offers_of lists key (cons_option (option_map (λ (eto : ℕ). (id, eto)) w) over)
offer_if id key None lists None os over is rest = rest
offer_if id key (Some l) lists None os over is rest = rest
offer_if id key l lists (Some eto) os over is rest = λ i. cons_option (offer_in id key (sym is i) (Some eto)) (rest i)

pub offers_same : (s : Situation) (key : Text) (plan : FlightPlan) (rs : List Regulation) → filter_map (offer s key plan) rs ≡ offers_of s.lists key (crossed plan rs)
offers_same s key plan [] = refl
offers_same s key plan (r ∷ rs) =
    offer_if r.id key (s.lists r.id) s.lists (subject plan r) (filter_map (offer s key plan) rs) (crossed plan rs) refl (offers_same s key plan rs)

-- the most penalising offer of the regulations to which the plan is subject is the flight's choice
pub best_is : (v : Sight) (key : Text) (plan : FlightPlan) → best_offer v key plan ≡ choice (situation_in v) key plan
best_is v key plan = sym (ap most_penalising (offers_same (situation_in v) key plan (regulations_in v)))
