-- the offer that is chosen: it is of an open regulation, at a time from the flight's own to the regulation's end
use Rattle.std.proofs.Common.{◌≡◌, ℕ, ◌-◌, ◌<◌, ◌≤◌, List, [], ◌∷◌, Bool, true, false, cond, ◌&&◌, refl, sym, ap, ◌∙◌, Option, None, Some, subst, nat_lt, nat_le, arith}
use Rattle.std.specs.Option.{option_map, option_and_then}
use Rattle.std.specs.List.{AllByRecursion, best_of, find, filter_map, cons_option}
use Rattle.std.specs.List.Sorted.{IsStrictlySortedBy}
use Rattle.std.specs.Map.{keys_of}
use Rattle.std.proofs.lemmas.Bool.{and_parts, and_from, ltb-true, lt-ltb, leb-true, le-leb}
use Rattle.casa_grid.specs.declared.slot.Window.{Window}
use Rattle.casa_grid.specs.declared.slot.Place.{Place}
use Rattle.casa_grid.specs.declared.slot.Place.TheVariants.{Slot, Over}
use Rattle.casa_grid.specs.Profile.{end_of}
use Rattle.casa_grid.specs.Slots.{slots}
use Rattle.casa_grid.specs.TimeOver.{cto}
use Rattle.casa_filing.specs.declared.plan.Crossing.{Crossing}
use Rattle.casa_filing.specs.declared.regulation.Regulation.{Regulation}
use Rattle.casa_filing.specs.declared.regulation.Measure.{Measure}
use Rattle.casa_flight.specs.declared.row.Row.{Row}
use Rattle.casa_flight.specs.declared.state.State.{State}
use Rattle.casa_filing.specs.Text.{Text, at_name}
use Rattle.casa_filing.specs.FlightPlan.{FlightPlan}
use Rattle.casa_filing.specs.Subject.{regulation, is_there, covered, subject}
use Rattle.casa_flight.specs.Listing.{Listing, listing, place_of}
use Rattle.casa_flight.specs.Entry.{Offer, offer_in, offer, offers, most_penalising, choice, situation, with_competitor}
use Rattle.casa_flight.specs.Good.{IsOutside}
use Rattle.casa_filing.proofs.Entries.{text_cmp, each_found, all-filter_map, filter_map-map}

-- a crossing that a regulation covers is there from its start to before its end
pub in_span : (r : Regulation) (c : Crossing) (eto : ℕ) → covered r c ≡ Some eto → (c.eto ≡ eto) × (r.start ≤ eto) × (eto < r.end)
in_span r c eto h =
    elim (nat_le r.start c.eto && nat_lt c.eto r.end) as (λ b. (nat_le r.start c.eto && nat_lt c.eto r.end) ≡ b → cond b (Some c.eto) None ≡ Some eto → (c.eto ≡ eto) × (r.start ≤ eto) × (eto < r.end)) [
      | true ↦ λ t f.
          let time : c.eto ≡ eto = cc in
          let parts = and_parts (nat_le r.start c.eto) (nat_lt c.eto r.end) t in
          (time, subst (λ n. r.start ≤ n) time (leb-true r.start c.eto parts.0), subst (λ n. n < r.end) time (ltb-true c.eto r.end parts.1))
      | false ↦ λ t f. cc
    ] refl h

-- a flight that is subject to a regulation is there before its end
pub eto-before_end : (plan : FlightPlan) (r : Regulation) (eto : ℕ) → subject plan r ≡ Some eto → eto < r.end
eto-before_end plan r eto h = by (find (is_there r.loc) plan.via) h
  where
    by : (w : Option Crossing) → option_and_then (covered r) w ≡ Some eto → eto < r.end
    by None f = cc
    by (Some c) f = (in_span r c eto f).2

-- and stays so, at the same time, with a later end
pub subject-later : (plan : FlightPlan) (id loc : Text) (start end later eto : ℕ) → end ≤ later
    → subject plan (record { id = id; loc = loc; start = start; end = end }) ≡ Some eto → subject plan (record { id = id; loc = loc; start = start; end = later }) ≡ Some eto
subject-later plan id loc start end later eto after h = by (find (is_there loc) plan.via) h
  where
    until : ℕ → Regulation
    until time = record { id = id; loc = loc; start = start; end = time }

    by : (w : Option Crossing) → option_and_then (covered (until end)) w ≡ Some eto → option_and_then (covered (until later)) w ≡ Some eto
    by None f = cc
    by (Some c) f =
        let span = in_span (until end) c eto f in
        let from : start ≤ c.eto = subst (λ n. start ≤ n) (sym span.0) span.1 in
        let before : c.eto < end = subst (λ n. n < end) (sym span.0) span.2 in
        ap (λ b. cond b (Some c.eto) None) (and_from _ _ (le-leb start c.eto from) (lt-ltb c.eto later (omega arith))) ∙ ap (λ (n : ℕ). Some n) span.0

-- a calculated time over is from the estimated one to the end
pub cto-between : (ws : List Window) (end eto : ℕ) (place : Place) → eto < end → (eto ≤ cto ws end eto place) × (cto ws end eto place ≤ end)
cto-between ws end eto (Slot k) h = (omega arith, omega arith)
cto-between ws end eto Over h = (omega arith, omega arith)

-- the offer is of one of these regulations, to which the plan is subject, at a time from its own to the end
pub record IsOfferOf (regs : List (Text × Measure)) (plan : FlightPlan) (o : Offer) : Type 0 where
  pub measure : Measure
  pub is_open : at_name regs o.id ≡ Some measure
  pub eto : ℕ
  pub is_subject : subject plan (regulation o.id measure) ≡ Some eto
  pub from_eto : eto ≤ o.cto
  pub to_end : o.cto ≤ end_of measure.profile

-- an offer that is made is such an offer
offer_from : (regs : List (Text × Measure)) (rows : List (Text × Row)) (key : Text) (plan : FlightPlan) (id : Text) (measure : Measure) (o : Offer)
    → at_name regs id ≡ Some measure
    → offer_in id key (Some (listing rows id measure)) (subject plan (regulation id measure)) ≡ Some o
    → IsOfferOf regs plan o
offer_from regs rows key plan id measure o found h =
    let l : Listing = listing rows id measure in
    elim (subject plan (regulation id measure)) as (λ (w : Option ℕ). subject plan (regulation id measure) ≡ w → offer_in id key (Some l) w ≡ Some o → IsOfferOf regs plan o) [
      | None ↦ λ is same. cc
      | Some eto ↦ λ is same.
          let place : Place = place_of (with_competitor l key eto) key in
          let time : ℕ = cto (slots measure.profile) (end_of measure.profile) eto place in
          let made : Offer = record { id = id; cto = time; delay = time - eto } in
          let here : made ≡ o = cc in
          let between = cto-between (slots measure.profile) (end_of measure.profile) eto place (eto-before_end plan (regulation id measure) eto is) in
          subst (IsOfferOf regs plan) here
          (record { measure = measure; is_open = found; eto = eto; is_subject = is; from_eto = between.0; to_end = between.1 })
    ] refl h

-- an open regulation has a list, and so what it offers follows from the plan
pub offer-is : (m : State) (key : Text) (plan : FlightPlan) (id : Text) (measure : Measure) → at_name m.regs id ≡ Some measure
    → offer (situation m) key plan (regulation id measure) ≡ offer_in id key (Some (listing m.rows id measure)) (subject plan (regulation id measure))
offer-is m key plan id measure found = ap (λ (w : Option Measure). offer_in id key (option_map (listing m.rows id) w) (subject plan (regulation id measure))) found

-- each offer that is made
each_offer : (m : State) (key : Text) (plan : FlightPlan) → IsStrictlySortedBy text_cmp (keys_of m.regs) → AllByRecursion (IsOfferOf m.regs plan) (offers (situation m) key plan)
each_offer m key plan sorted =
    subst (AllByRecursion (IsOfferOf m.regs plan)) (sym (filter_map-map (offer (situation m) key plan) (λ (e : Text × Measure). regulation e.0 e.1) m.regs))
    (all-filter_map (λ (e : Text × Measure). at_name m.regs e.0 ≡ Some e.1) (IsOfferOf m.regs plan) (λ (e : Text × Measure). offer (situation m) key plan (regulation e.0 e.1))
    (λ e o found h. offer_from m.regs m.rows key plan e.0 e.1 o found (sym (offer-is m key plan e.0 e.1 found) ∙ h)) m.regs (each_found m.regs sorted))

-- the best of some is one of them
best_among : {X : Type 0} (P : X → Type 0) (beats : X → X → Bool) (x : X) (xs : List X) → P x → AllByRecursion P xs → P (best_of beats x xs)
best_among P beats x [] h all = h
best_among {X} P beats x (y ∷ ys) h all =
    best_among P beats (cond (beats y x) y x) ys (elim (beats y x) as (λ (b : Bool). P (cond b y x)) [ true ↦ all.0 | false ↦ h ]) all.1

pub most_among : (P : Offer → Type 0) (os : List Offer) (o : Offer) → AllByRecursion P os → most_penalising os ≡ Some o → P o
most_among P [] o all h = cc
most_among P (x ∷ xs) o all h =
    let beats : Offer → Offer → Bool = λ (x best : Offer). nat_lt best.delay x.delay in
    let here : best_of beats x xs ≡ o = cc in
    subst P here (best_among P beats x xs all.0 all.1)

-- what is chosen is such an offer
pub choice-offer : (m : State) (key : Text) (plan : FlightPlan) (o : Offer) → IsStrictlySortedBy text_cmp (keys_of m.regs) → choice (situation m) key plan ≡ Some o → IsOfferOf m.regs plan o
choice-offer m key plan o sorted h = most_among (IsOfferOf m.regs plan) (offers (situation m) key plan) o (each_offer m key plan sorted) h

-- there is a choice if there is an offer
pub most_none : (os : List Offer) → most_penalising os ≡ None → os ≡ []
most_none [] h = refl
most_none (o ∷ os) h = cc

-- where there is no offer, the plan is subject to nothing
none_offers : (m : State) (key : Text) (plan : FlightPlan) (es : List (Text × Measure)) → AllByRecursion (λ (e : Text × Measure). at_name m.regs e.0 ≡ Some e.1) es
    → filter_map (λ (e : Text × Measure). offer (situation m) key plan (regulation e.0 e.1)) es ≡ [] → IsOutside es plan
none_offers m key plan [] found h = tt
none_offers m key plan (e ∷ es) found h =
    let rest : List Offer = filter_map (λ (e : Text × Measure). offer (situation m) key plan (regulation e.0 e.1)) es in
    let opened : cons_option (offer_in e.0 key (Some (listing m.rows e.0 e.1)) (subject plan (regulation e.0 e.1))) rest ≡ [] = sym (ap (λ (w : Option Offer). cons_option w rest) (offer-is m key plan e.0 e.1 found.0)) ∙ h in
    elim (subject plan (regulation e.0 e.1)) as (λ (w : Option ℕ). cons_option (offer_in e.0 key (Some (listing m.rows e.0 e.1)) w) rest ≡ [] → (w ≡ None) × IsOutside es plan) [
      | None ↦ λ none. (refl, none_offers m key plan es found.1 none)
      | Some eto ↦ λ none. cc
    ] opened

pub choice-none : (m : State) (key : Text) (plan : FlightPlan) → IsStrictlySortedBy text_cmp (keys_of m.regs) → choice (situation m) key plan ≡ None → IsOutside m.regs plan
choice-none m key plan sorted h =
    none_offers m key plan m.regs (each_found m.regs sorted)
    (sym (filter_map-map (offer (situation m) key plan) (λ (e : Text × Measure). regulation e.0 e.1) m.regs) ∙ most_none (offers (situation m) key plan) h)
