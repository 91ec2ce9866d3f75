-- how a flight enters is the same in a view and in the state, and the delay that it then has is the one that it was offered
use Rattle.std.proofs.Common.{◌≡◌, ℕ, ◌-◌, List, Bool, true, false, cond, refl, sym, ap, subst, ◌∙◌, Option, None, Some, ◌||◌, is_some, if◌then◌else◌}
use Rattle.std.specs.Option.{option_map, option_map_or}
use Rattle.std.specs.List.{filter_map}
use Rattle.casa_filing.specs.declared.regulation.Regulation.{Regulation}
use Rattle.casa_filing.specs.declared.regulation.Measure.{Measure}
use Rattle.casa_flight.specs.declared.row.Row.{Row}
use Rattle.casa_flight.specs.declared.row.Stance.TheVariants.{Competing}
use Rattle.casa_flight.specs.declared.state.State.{State}
use Rattle.casa_filing.specs.Text.{Text}
use Rattle.casa_filing.specs.FlightPlan.{FlightPlan}
use Rattle.casa_filing.specs.Subject.{regulation, subject, is_due, is_gone}
use Rattle.casa_flight.specs.State.{measure_of, with_row, catalogue, is_exempt}
use Rattle.casa_flight.specs.Listing.{Listing, listing, list_of, cto_as, delay_of}
use Rattle.casa_flight.specs.Entry.{Situation, situation, Offer, offer_in, offer, choice, most_penalising, governed, row_after_entry, with_competitor}
use Rattle.casa_flight.specs.Good.{IsGood}
use Rattle.casa_filing.proofs.Entries.{each_found, all-each, filter_map-map, filter_map-each, at-put_same, sorted-put}
use Rattle.casa_laws.proofs.Choice.{offer-is}
use Rattle.casa_laws.proofs.Chosen.{choice_among, offers_open}
use Rattle.casa_laws.proofs.Times.{governed_there, delay_governed, delay_free, offer_delay}
use Rattle.casa_footprint.specs.Footprint.{is_subject}
use Rattle.casa_footprint.proofs.Entering.{subject_at}
use Rattle.casa_plan_spec.specs.Sight.{Sight, clock_in, situation_in}
use Rattle.casa_plan_spec.specs.OneFlight.{entry_offer, with_offer, offered_delay}
use Rattle.casa_plan_spec.proofs.Crossings.{best_is}

-- the offer that an ungoverned flight takes as it enters, by what it finds
abbrev pub offer_found : Situation → Text → Row → Option Offer
offer_found s key row = if is_exempt row || is_gone s.clock row.plan then None else choice s key row.plan

-- a flight with this plan finds in the situation what it finds in the state
pub record Finds (s : Situation) (plan : FlightPlan) (m : State) : Type 0 where
  pub good : IsGood m
  pub clock : s.clock ≡ m.clock
  pub regulations : s.regulations ≡ catalogue m
  pub lists : (id : Text) → is_subject m plan id ≡ true → s.lists id ≡ list_of m id

-- a regulation offers nothing to a flight that is not subject to it, whatever its list
no_offer : (id key : Text) (v w : Option Listing) → offer_in id key v None ≡ offer_in id key w None
no_offer id key None None = refl
no_offer id key None (Some l) = refl
no_offer id key (Some k) None = refl
no_offer id key (Some k) (Some l) = refl

offer_same : (s : Situation) (m : State) (key : Text) (plan : FlightPlan) → Finds s plan m → (e : Text × Measure) → measure_of m e.0 ≡ Some e.1 → offer s key plan (regulation e.0 e.1) ≡ offer (situation m) key plan (regulation e.0 e.1)
offer_same s m key plan f e opened =
    elim (subject plan (regulation e.0 e.1)) as (λ w. subject plan (regulation e.0 e.1) ≡ w → offer_in e.0 key (s.lists e.0) w ≡ offer_in e.0 key (list_of m e.0) w) [
      | None ↦ λ p. no_offer e.0 key (s.lists e.0) (list_of m e.0)
      | Some eto ↦ λ p. ap (λ (w : Option Listing). offer_in e.0 key w (Some eto)) (f.lists e.0 (subject_at m plan e.0 e.1 opened ∙ ap is_some p))
    ] refl

choice_same : (s : Situation) (m : State) (key : Text) (plan : FlightPlan) → Finds s plan m → choice s key plan ≡ choice (situation m) key plan
choice_same s m key plan f =
    let over : Text × Measure → Regulation = λ e. regulation e.0 e.1 in
    let each : filter_map (λ (e : Text × Measure). offer s key plan (over e)) m.regs ≡ filter_map (λ (e : Text × Measure). offer (situation m) key plan (over e)) m.regs =
    filter_map-each _ _ m.regs (all-each (λ (e : Text × Measure). measure_of m e.0 ≡ Some e.1) (λ (e : Text × Measure). offer s key plan (over e) ≡ offer (situation m) key plan (over e)) (offer_same s m key plan f) m.regs (each_found m.regs f.good.regs_in_order)) in
    ap (λ (rs : List Regulation). most_penalising (filter_map (offer s key plan) rs)) f.regulations
    ∙ ap most_penalising (filter_map-map (offer s key plan) over m.regs ∙ each ∙ sym (filter_map-map (offer (situation m) key plan) over m.regs))

pub entry_same : (v : Sight) (m : State) (key : Text) (row : Row) → Finds (situation_in v) row.plan m → entry_offer v key row ≡ offer_found (situation m) key row
entry_same v m key row f =
    ap (λ (o : Option Offer). cond (is_exempt row || is_gone (clock_in v) row.plan) None o) (best_is v key row.plan)
    ∙ (λ i. cond (is_exempt row || is_gone (f.clock i) row.plan) None (choice_same (situation_in v) m key row.plan f i))

-- a flight enters with the offer that it takes
pub entered_is : (s : Situation) (key : Text) (row : Row) → row_after_entry s key row ≡ with_offer s.clock row (offer_found s key row)
entered_is s key row =
    elim (is_exempt row || is_gone s.clock row.plan) as (λ b. cond b row (option_map_or (governed s.clock row) (choice s key row.plan) row) ≡ with_offer s.clock row (cond b None (choice s key row.plan))) [
      | true ↦ refl
      | false ↦ refl
    ]

-- an offer that is made is of an open regulation, and its delay is from the estimated to the calculated time over
made_by : (id key : Text) (l : Listing) (w : Option ℕ) (o : Offer) → offer_in id key (Some l) w ≡ Some o → (eto : ℕ) × (w ≡ Some eto) × (o.delay ≡ o.cto - eto)
made_by id key l None o h = cc
made_by id key l (Some eto) o h =
    let time : ℕ = cto_as (with_competitor l key eto) key (Competing eto) in
    let x : Offer = record { id = id; cto = time; delay = time - eto } in
    let same : x ≡ o = cc in
    (eto, refl, subst (λ (y : Offer). y.delay ≡ y.cto - eto) same refl)

governed_delay : (m : State) (key : Text) (row : Row) (o : Offer) (due : Bool) → IsGood m → choice (situation m) key row.plan ≡ Some o
    → let new : Row = record row { governing = Some o.id; issued = cond due (Some o.cto) None } in
    delay_of (with_row m key new) key new ≡ o.delay
governed_delay m key row o due good chosen = by due
  where
    there : (measure : Measure) × (measure_of m o.id ≡ Some measure) × (offer (situation m) key row.plan (regulation o.id measure) ≡ Some o)
    there = (offers_open m key row.plan o good.regs_in_order).0 (choice_among m key row.plan o chosen)

    made : (eto : ℕ) × (subject row.plan (regulation o.id there.0) ≡ Some eto) × (o.delay ≡ o.cto - eto)
    made = made_by o.id key (listing m.rows o.id there.0) (subject row.plan (regulation o.id there.0)) o (sym (offer-is m key row.plan o.id there.0 there.1) ∙ there.2)

    by : (b : Bool) → let new : Row = record row { governing = Some o.id; issued = cond b (Some o.cto) None } in delay_of (with_row m key new) key new ≡ o.delay
    by true =
        let new : Row = record row { governing = Some o.id; issued = Some o.cto } in
        delay_governed (with_row m key new) key o.id new there.0 made.0 (sorted-put key new m.rows good.rows_in_order) (at-put_same key new m.rows) refl there.1 made.1 ∙ sym made.2
    by false =
        let both : Some (delay_of (with_row m key (governed_there row o.id)) key (governed_there row o.id)) ≡ Some o.delay =
        sym (offer_delay m key o.id row there.0 made.0 good.rows_in_order there.1 made.1) ∙ ap (option_map (λ (x : Offer). x.delay)) there.2 in
        cc

-- the delay of a flight that has entered is the one that it was offered
pub entered_delay : (m : State) (key : Text) (row : Row) → IsGood m → row.governing ≡ None
    → let new : Row = with_offer m.clock row (offer_found (situation m) key row) in
    delay_of (with_row m key new) key new ≡ offered_delay (offer_found (situation m) key row)
entered_delay m key row good free = by (is_exempt row || is_gone m.clock row.plan)
  where
    none : delay_of (with_row m key row) key row ≡ 0
    none = delay_free (with_row m key row) key row free

    chosen : (o : Option Offer) → choice (situation m) key row.plan ≡ o → delay_of (with_row m key (with_offer m.clock row o)) key (with_offer m.clock row o) ≡ offered_delay o
    chosen None h = none
    chosen (Some o) h = governed_delay m key row o (is_due m.clock row.plan) good h

    by : (b : Bool) → let o : Option Offer = cond b None (choice (situation m) key row.plan) in delay_of (with_row m key (with_offer m.clock row o)) key (with_offer m.clock row o) ≡ offered_delay o
    by true = none
    by false = chosen (choice (situation m) key row.plan) refl
