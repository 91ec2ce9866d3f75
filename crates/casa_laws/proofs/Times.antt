-- delays, calculated times over and offers in a state
use Rattle.std.proofs.Common.{◌≡◌, ℕ, ◌-◌, true, false, refl, sym, ap, ◌∙◌, Option, None, Some, unwrap_or}
use Rattle.std.specs.Option.{option_map, option_and_then, option_map_or}
use Rattle.std.proofs.lemmas.Cmp.{nat_list_eq_equiv}
use Rattle.casa_grid.specs.Profile.{end_of}
use Rattle.casa_grid.specs.Slots.{slots}
use Rattle.casa_grid.specs.TimeOver.{cto}
use Rattle.casa_filing.specs.declared.regulation.Measure.{Measure}
use Rattle.casa_flight.specs.declared.row.Row.{Row}
use Rattle.casa_flight.specs.declared.row.Stance.{Stance}
use Rattle.casa_flight.specs.declared.row.Stance.TheVariants.{Competing}
use Rattle.casa_flight.specs.declared.state.State.{State}
use Rattle.casa_filing.specs.Text.{Text, same_text}
use Rattle.casa_filing.specs.Subject.{regulation, subject}
use Rattle.casa_flight.specs.State.{row_of, measure_of, with_row}
use Rattle.casa_flight.specs.Listing.{Listing, listing, list_of, stance, stance_in, stance_of, place_of, cto_as, cto_of, eto_as, delay_in, delay_of, governing_list}
use Rattle.casa_flight.specs.Entry.{Offer, situation, with_competitor, offer, offer_in}
use Rattle.casa_flight.specs.Good.{AreInOrder}
use Rattle.casa_filing.proofs.Entries.{at-put_same}
use Rattle.casa_laws.proofs.Kept.{at-kept}
use Rattle.casa_laws.proofs.Lists.{list_puts}

-- how a flight stands in the list of the regulation that governs it
governed_stance : (id : Text) (measure : Measure) (row : Row) (eto : ℕ) → row.governing ≡ Some id → subject row.plan (regulation id measure) ≡ Some eto → stance_in id measure row ≡ Some (stance true row.issued eto)
governed_stance id measure row eto governs over =
    (λ j. option_map (stance (option_map_or (same_text id) (governs j) false) row.issued) (over j))
    ∙ ap (λ b. Some (stance b row.issued eto)) (nat_list_eq_equiv.refl id)

-- a flight's delay is that of the place or issue that it has in its governing list
pub delay_governed : (m : State) (key id : Text) (row : Row) (measure : Measure) (eto : ℕ) → AreInOrder m.rows → row_of m key ≡ Some row → row.governing ≡ Some id → measure_of m id ≡ Some measure → subject row.plan (regulation id measure) ≡ Some eto
    → delay_of m key row ≡ unwrap_or row.issued (cto (slots measure.profile) (end_of measure.profile) eto (place_of (listing m.rows id measure) key)) - eto
delay_governed m key id row measure eto sorted found governs opened over =
    let stands : stance_of (listing m.rows id measure) key ≡ Some (stance true row.issued eto) =
    at-kept (stance_in id measure) key m.rows sorted ∙ ap (option_and_then (stance_in id measure)) found ∙ governed_stance id measure row eto governs over in
    ap (λ (w : Option Text). option_map_or (λ (l : Listing). delay_in l key) (option_and_then (list_of m) w) 0) governs
    ∙ ap (λ (w : Option Measure). option_map_or (λ (l : Listing). delay_in l key) (option_map (listing m.rows id) w) 0) opened
    ∙ ap (λ (w : Option Stance). option_map_or (λ (s : Stance). cto_as (listing m.rows id measure) key s - eto_as s) w 0) stands
    ∙ by row.issued
  where
    by : (issued : Option ℕ) → cto_as (listing m.rows id measure) key (stance true issued eto) - eto_as (stance true issued eto) ≡ unwrap_or issued (cto (slots measure.profile) (end_of measure.profile) eto (place_of (listing m.rows id measure) key)) - eto
    by None = refl
    by (Some t) = refl

pub delay_free : (m : State) (key : Text) (row : Row) → row.governing ≡ None → delay_of m key row ≡ 0
delay_free m key row free = ap (λ (w : Option Text). option_map_or (λ (l : Listing). delay_in l key) (option_and_then (list_of m) w) 0) free

-- a flight as a regulation would govern it, not issued
abbrev pub governed_there : Row → Text → Row
governed_there row id = record row { governing = Some id; issued = None }

-- a regulation's list with the flight as a competitor is the list of the state where it governs the flight
list_there : (m : State) (key id : Text) (row : Row) (measure : Measure) (eto : ℕ) → AreInOrder m.rows → measure_of m id ≡ Some measure → subject row.plan (regulation id measure) ≡ Some eto
    → list_of (with_row m key (governed_there row id)) id ≡ Some (with_competitor (listing m.rows id measure) key eto)
list_there m key id row measure eto sorted opened over =
    list_puts m key id (governed_there row id) measure (listing m.rows id measure) (Competing eto) sorted opened (ap (option_map (listing m.rows id)) opened) (governed_stance id measure (governed_there row id) eto refl over)

offered : (m : State) (key id : Text) (row : Row) (measure : Measure) (eto : ℕ) → measure_of m id ≡ Some measure → subject row.plan (regulation id measure) ≡ Some eto
    → offer (situation m) key row.plan (regulation id measure) ≡ offer_in id key (Some (listing m.rows id measure)) (Some eto)
offered m key id row measure eto opened over = λ j. offer_in id key (option_map (listing m.rows id) (opened j)) (over j)

pub offer_time : (m : State) (key id : Text) (row : Row) (measure : Measure) (eto : ℕ) → AreInOrder m.rows → measure_of m id ≡ Some measure → subject row.plan (regulation id measure) ≡ Some eto
    → option_map (λ (o : Offer). o.cto) (offer (situation m) key row.plan (regulation id measure)) ≡ option_and_then (λ (l : Listing). cto_of l key) (governing_list (with_row m key (governed_there row id)) (governed_there row id))
offer_time m key id row measure eto sorted opened over =
    let l : Listing = listing m.rows id measure in
    let k : Listing = with_competitor l key eto in
    ap (option_map (λ (o : Offer). o.cto)) (offered m key id row measure eto opened over)
    ∙ sym (ap (option_and_then (λ (l : Listing). cto_of l key)) (list_there m key id row measure eto sorted opened over) ∙ ap (option_map (cto_as k key)) (at-put_same key (Competing eto) l.flights))

pub offer_delay : (m : State) (key id : Text) (row : Row) (measure : Measure) (eto : ℕ) → AreInOrder m.rows → measure_of m id ≡ Some measure → subject row.plan (regulation id measure) ≡ Some eto
    → option_map (λ (o : Offer). o.delay) (offer (situation m) key row.plan (regulation id measure)) ≡ Some (delay_of (with_row m key (governed_there row id)) key (governed_there row id))
offer_delay m key id row measure eto sorted opened over =
    let l : Listing = listing m.rows id measure in
    let k : Listing = with_competitor l key eto in
    ap (option_map (λ (o : Offer). o.delay)) (offered m key id row measure eto opened over)
    ∙ sym (ap (λ (w : Option Listing). Some (option_map_or (λ (l : Listing). delay_in l key) w 0)) (list_there m key id row measure eto sorted opened over) ∙ ap (λ (w : Option Stance). Some (option_map_or (λ (s : Stance). cto_as k key s - eto_as s) w 0)) (at-put_same key (Competing eto) l.flights))
