-- a flight that leaves its list, or is forced there from now on, delays no other flight
use Rattle.std.proofs.Common.{◌≡◌, ℕ, ◌-◌, ◌≤◌, List, [], ◌∷◌, length, Bool, true, false, cond, refl, sym, ◌∙◌, ap, subst, subst₂, arith, inl, inr, Option, None, Some}
use Rattle.std.specs.declared.cmp.Ordering.TheVariants.{Less, Equal, Greater}
use Rattle.std.specs.Ordering.{is_eq, match_ordering}
use Rattle.std.specs.Option.{option_map, option_map_or, option_and_then}
use Rattle.std.specs.List.{cons_option, list_any, slice_get}
use Rattle.std.specs.Cmp.Lexicographic.{same_text as text_is}
use Rattle.std.proofs.lemmas.Bool.{false_from_ne_true, or_cases, or_left, or_right}
use Rattle.casa_grid.specs.declared.slot.Place.{Place}
use Rattle.casa_grid.specs.declared.slot.Place.TheVariants.{Slot, Over}
use Rattle.casa_grid.specs.declared.slot.Window.{Window}
use Rattle.casa_grid.specs.Profile.{IsProfile, start_of, end_of}
use Rattle.casa_grid.specs.Slots.{slots, is_within}
use Rattle.casa_grid.specs.TimeOver.{cto}
use Rattle.casa_grid.proofs.Slots.{slots-apart}
use Rattle.casa_filing.specs.declared.regulation.Measure.{Measure}
use Rattle.casa_filing.specs.Text.{Text, same_text, at_name, put, without}
use Rattle.casa_filing.specs.Subject.{regulation, subject}
use Rattle.casa_filing.proofs.Entries.{text_cmp, same_name, at-put_other, at-without_other}
use Rattle.casa_flight.specs.declared.call.Call.TheVariants.{Cancel, Exempt}
use Rattle.casa_flight.specs.declared.comp.Comp.{Comp}
use Rattle.casa_flight.specs.declared.row.Row.{Row}
use Rattle.casa_flight.specs.declared.row.Stance.{Stance}
use Rattle.casa_flight.specs.declared.row.Stance.TheVariants.{Competing, Issued, Forced}
use Rattle.casa_flight.specs.declared.state.State.{State}
use Rattle.casa_flight.specs.State.{row_of, measure_of, with_row, is_exempt}
use Rattle.casa_flight.specs.Assignment.{is_blocked, assignment}
use Rattle.casa_flight.specs.Listing.{Listing, listing, list_of, stance_in, competitor, competitors, issued_cto, place_of, stance_of, cto_as, eto_as, delay_in, delay_of, governing_list}
use Rattle.casa_flight.specs.Steps.{after, cancel, exempt, exempt_if, next}
use Rattle.casa_flight.specs.Good.{AreInOrder}
use Rattle.casa_laws.proofs.Kept.{sorted-kept, without_absent}
use Rattle.casa_laws.proofs.Competitors.{with_one, competitors-stance, competitors_stopped}
use Rattle.casa_laws.proofs.Lists.{list_cancelled, list_puts, list_removes}
use Rattle.casa_laws.proofs.MovesNobody.{times}
use Rattle.casa_laws.proofs.Outcomes.{exempted}
use Rattle.casa_laws.proofs.Planned.{competitor_key}
use Rattle.casa_best.specs.Serving.{IsNoLater}
use Rattle.casa_best.proofs.Cheapest.{IsNoLaterAmong}
use Rattle.casa_best.proofs.Costs.{time_at, delay-time, times_rise}
use Rattle.casa_best.proofs.Room.{occupied, place_in, places_sooner}

-- each test that a time of the first passes, one of the second passes
abbrev HasTimes : List ℕ → List ℕ → Type 0
HasTimes us ts = (p : ℕ → Bool) → list_any p us ≡ true → list_any p ts ≡ true

any_behind : (p : ℕ → Bool) (o : Option ℕ) (us : List ℕ) → list_any p us ≡ true → list_any p (cons_option o us) ≡ true
any_behind p None us h = h
any_behind p (Some t) us h = or_right (p t) (list_any p us) h

any_next : (p : ℕ → Bool) (o : Option ℕ) (us ts : List ℕ) → (list_any p us ≡ true → list_any p ts ≡ true) → list_any p (cons_option o us) ≡ true → list_any p (cons_option o ts) ≡ true
any_next p None us ts f h = f h
any_next p (Some t) us ts f h =
    elim (or_cases (p t) (list_any p us) h) [
      | inl here ↦ or_left (p t) (list_any p ts) here
      | inr later ↦ or_right (p t) (list_any p ts) (f later)
    ]

-- without a flight no time is issued that was not
times-without : (k : Text) (fs : List (Text × Stance)) → HasTimes (times (without fs k)) (times fs)
times-without k [] p h = h
times-without k (e ∷ es) p h =
    elim (is_eq (text_cmp k e.0)) as (λ b. list_any p (times (cond b es (e ∷ without es k))) ≡ true → list_any p (times (e ∷ es)) ≡ true) [
      | true ↦ λ g. any_behind p (issued_cto e.1) (times es) g
      | false ↦ λ g. any_next p (issued_cto e.1) (times (without es k)) (times es) (times-without k es p) g
    ] h

-- nor where it is forced
times-forced : (k : Text) (eto : ℕ) (fs : List (Text × Stance)) → HasTimes (times (put fs k (Forced eto))) (times fs)
times-forced k eto [] p h = h
times-forced k eto (e ∷ es) p h =
    elim (text_cmp k e.0) as (λ r. list_any p (times (match_ordering r ((k, Forced eto) ∷ e ∷ es) ((e.0, Forced eto) ∷ es) (e ∷ put es k (Forced eto)))) ≡ true → list_any p (times (e ∷ es)) ≡ true) [
      | Less ↦ λ g. g
      | Equal ↦ λ g. any_behind p (issued_cto e.1) (times es) g
      | Greater ↦ λ g. any_next p (issued_cto e.1) (times (put es k (Forced eto))) (times es) (times-forced k eto es p) g
    ] h

blocked_fewer : (ws : List Window) (ts us : List ℕ) → HasTimes us ts → (k : ℕ) → is_blocked (occupied ws us) k ≡ true → is_blocked (occupied ws ts) k ≡ true
blocked_fewer ws ts us fewer k =
    elim (slice_get ws k) as (λ (w : Option Window). option_map_or (λ (w : Window). list_any (λ t. is_within t w) us) w false ≡ true → option_map_or (λ (w : Window). list_any (λ t. is_within t w) ts) w false ≡ true) [
      | None ↦ λ h. h
      | Some w ↦ λ h. fewer (λ t. is_within t w) h
    ]

-- the list with these flights
abbrev with_flights : Listing → List (Text × Stance) → Listing
with_flights l fs = record l { flights = fs }

-- who competed under this key
who_competes : (l : Listing) (key other : Text) → AreInOrder l.flights → (other ≡ key → ⊥)
    → (who : Option Comp) × ((competitors l ≡ with_one who (competitors (with_flights l (without l.flights key)))) × ((c : Comp) → who ≡ Some c → same_text other c.key ≡ false))
who_competes l key other sorted apart = by (stance_of l key) refl
  where
    by : (w : Option Stance) → stance_of l key ≡ w
        → (who : Option Comp) × ((competitors l ≡ with_one who (competitors (with_flights l (without l.flights key)))) × ((c : Comp) → who ≡ Some c → same_text other c.key ≡ false))
    by None absent = (None, (ap (λ fs. competitors (with_flights l fs)) (sym (without_absent key l.flights absent)), λ c e. cc))
    by (Some s) stands = (
      competitor key s,
      (
        competitors-stance l key s sorted stands,
        λ c e. false_from_ne_true (same_text other c.key) (λ h. apart (text_is other c.key (sym h) ∙ competitor_key (key, s) c e)),
      ),
    )

place_sooner : (l : Listing) (key other : Text) (fs : List (Text × Stance)) → AreInOrder l.flights → (other ≡ key → ⊥) → competitors (with_flights l fs) ≡ competitors (with_flights l (without l.flights key)) → HasTimes (times fs) (times l.flights)
    → IsNoLaterAmong (length (slots l.profile)) (place_of (with_flights l fs) other) (place_of l other)
place_sooner l key other fs sorted apart rest fewer =
    let who = who_competes l key other sorted apart in
    let ws : List Window = slots l.profile in
    let cs : List Comp = competitors (with_flights l (without l.flights key)) in
    subst₂ (λ ds es. IsNoLaterAmong (length ws) (place_in other (assignment (occupied ws (times fs)) ds)) (place_in other (assignment (occupied ws (times l.flights)) es)))
    (sym rest) (sym who.1.0)
    (places_sooner ws (times l.flights) (times fs) (blocked_fewer ws (times l.flights) (times fs) fewer) other who.0 who.1.1 cs)

in_any : (n : ℕ) (p q : Place) → IsNoLaterAmong n p q → IsNoLater p q
in_any n (Slot j) (Slot k) le = le.0
in_any n Over (Slot k) le = absurd le
in_any n (Slot j) Over le = tt
in_any n Over Over le = tt

-- the list without a flight: each other one's place is no later
pub place-without : (l : Listing) (key other : Text) → AreInOrder l.flights → (other ≡ key → ⊥) → IsNoLater (place_of (record l { flights = without l.flights key }) other) (place_of l other)
place-without l key other sorted apart =
    in_any (length (slots l.profile)) (place_of (with_flights l (without l.flights key)) other) (place_of l other)
    (place_sooner l key other (without l.flights key) sorted apart refl (times-without key l.flights))

-- the other flight's delay, as it stands
delay_sooner : (l : Listing) (key : Text) (fs : List (Text × Stance)) → IsProfile l.profile → IsNoLaterAmong (length (slots l.profile)) (place_of (with_flights l fs) key) (place_of l key) → at_name fs key ≡ stance_of l key → delay_in (with_flights l fs) key ≤ delay_in l key
delay_sooner l key fs valid le stays =
    subst (λ (w : Option Stance). option_map_or (λ (s : Stance). cto_as (with_flights l fs) key s - eto_as s) w 0 ≤ option_map_or (λ (s : Stance). cto_as l key s - eto_as s) (stance_of l key) 0) (sym stays) (by (stance_of l key))
  where
    by : (w : Option Stance) → option_map_or (λ (s : Stance). cto_as (with_flights l fs) key s - eto_as s) w 0 ≤ option_map_or (λ (s : Stance). cto_as l key s - eto_as s) w 0
    by None = omega arith
    by (Some (Competing eto)) =
        let ws : List Window = slots l.profile in
        let end : ℕ = end_of l.profile in
        let new : cto ws end eto (place_of (with_flights l fs) key) - eto ≡ time_at ws end (place_of (with_flights l fs) key) - eto = delay-time ws end eto (place_of (with_flights l fs) key) in
        let old : cto ws end eto (place_of l key) - eto ≡ time_at ws end (place_of l key) - eto = delay-time ws end eto (place_of l key) in
        let sooner : time_at ws end (place_of (with_flights l fs) key) ≤ time_at ws end (place_of l key) =
        times_rise (start_of l.profile) end ws (slots-apart l.profile valid) (place_of (with_flights l fs) key) (place_of l key) le in
        omega (arith, new, old, sooner)
    by (Some (Issued eto t)) = omega arith
    by (Some (Forced eto)) = omega arith

pub apart_names : (k q : Text) → (k ≡ q → ⊥) → is_eq (text_cmp k q) ≡ false
apart_names k q apart = false_from_ne_true (is_eq (text_cmp k q)) (λ h. apart (same_name k q h))

delay-without : (l : Listing) (key other : Text) → AreInOrder l.flights → IsProfile l.profile → (other ≡ key → ⊥) → delay_in (with_flights l (without l.flights key)) other ≤ delay_in l other
delay-without l key other sorted valid apart =
    delay_sooner l other (without l.flights key) valid
    (place_sooner l key other (without l.flights key) sorted apart refl (times-without key l.flights))
    (at-without_other other key l.flights (apart_names other key apart))

delay-forced : (l : Listing) (key other : Text) (eto : ℕ) → AreInOrder l.flights → IsProfile l.profile → (other ≡ key → ⊥) → delay_in (with_flights l (put l.flights key (Forced eto))) other ≤ delay_in l other
delay-forced l key other eto sorted valid apart =
    delay_sooner l other (put l.flights key (Forced eto)) valid
    (place_sooner l key other (put l.flights key (Forced eto)) sorted apart (competitors_stopped l key (Forced eto) sorted refl) (times-forced key eto l.flights))
    (at-put_other other key (Forced eto) l.flights (apart_names other key apart))

-- a flight's delay by each of two states with the same regulations
abbrev delay_by : Text → Option Listing → ℕ
delay_by key w = option_map_or (λ (l : Listing). delay_in l key) w 0

delay_by_lists : (m : State) (rows : List (Text × Row)) (other : Text) (governing : Option Text) → ((l : Listing) → option_and_then (list_of m) governing ≡ Some l → IsProfile l.profile)
    → ((id : Text) (measure : Measure) → measure_of m id ≡ Some measure → IsProfile measure.profile → delay_by other (list_of (record m { rows = rows }) id) ≤ delay_in (listing m.rows id measure) other)
    → delay_by other (option_and_then (list_of (record m { rows = rows })) governing) ≤ delay_by other (option_and_then (list_of m) governing)
delay_by_lists m rows other None valid less = omega arith
delay_by_lists m rows other (Some id) valid less = by (measure_of m id) refl
  where
    by : (w : Option Measure) → measure_of m id ≡ w → delay_by other (list_of (record m { rows = rows }) id) ≤ delay_by other (list_of m id)
    by None closed =
        let new : delay_by other (list_of (record m { rows = rows }) id) ≡ 0 = ap (λ (w : Option Measure). delay_by other (option_map (listing rows id) w)) closed in
        omega (arith, new)
    by (Some measure) opened =
        let there : list_of m id ≡ Some (listing m.rows id measure) = ap (option_map (listing m.rows id)) opened in
        subst (λ w. delay_by other (list_of (record m { rows = rows }) id) ≤ delay_by other w) (sym there) (less id measure opened (valid (listing m.rows id measure) there))

-- a flight that is cancelled
pub delay_cancelled : (m : State) (key other : Text) (row : Row) → AreInOrder m.rows → (other ≡ key → ⊥) → ((l : Listing) → governing_list m row ≡ Some l → IsProfile l.profile) → delay_of (next m (Cancel key)) other row ≤ delay_of m other row
delay_cancelled m key other row sorted apart valid = by (row_of m key)
  where
    by : (w : Option Row) → delay_of (after m (cancel m key w)) other row ≤ delay_of m other row
    by None = omega arith
    by (Some gone) =
        delay_by_lists m (without m.rows key) other row.governing valid
        (λ id measure opened whole.
        let l : Listing = listing m.rows id measure in
        subst (λ w. delay_by other w ≤ delay_in l other) (sym (list_cancelled m key id measure l sorted opened (ap (option_map (listing m.rows id)) opened)))
        (delay-without l key other (sorted-kept (stance_in id measure) m.rows sorted) whole apart))

-- a flight that is exempt from now on
delay_exempted_in : (m : State) (key other id : Text) (gone : Row) (measure : Measure) → AreInOrder m.rows → (other ≡ key → ⊥) → measure_of m id ≡ Some measure → IsProfile measure.profile → delay_by other (list_of (with_row m key (exempted gone)) id) ≤ delay_in (listing m.rows id measure) other
delay_exempted_in m key other id gone measure sorted apart opened whole = by (subject gone.plan (regulation id measure)) refl
  where
    l : Listing
    l = listing m.rows id measure

    there : list_of m id ≡ Some l
    there = ap (option_map (listing m.rows id)) opened

    in_order : AreInOrder l.flights
    in_order = sorted-kept (stance_in id measure) m.rows sorted

    by : (w : Option ℕ) → subject gone.plan (regulation id measure) ≡ w → delay_by other (list_of (with_row m key (exempted gone)) id) ≤ delay_in l other
    by None outside =
        subst (λ w. delay_by other w ≤ delay_in l other)
        (sym (list_removes m key id (exempted gone) measure l sorted opened there (ap (option_map Forced) outside)))
        (delay-without l key other in_order whole apart)
    by (Some eto) over =
        subst (λ w. delay_by other w ≤ delay_in l other)
        (sym (list_puts m key id (exempted gone) measure l (Forced eto) sorted opened there (ap (option_map Forced) over)))
        (delay-forced l key other eto in_order whole apart)

pub delay_exempted : (m : State) (key other : Text) (row : Row) → AreInOrder m.rows → (other ≡ key → ⊥) → ((l : Listing) → governing_list m row ≡ Some l → IsProfile l.profile) → delay_of (next m (Exempt key)) other row ≤ delay_of m other row
delay_exempted m key other row sorted apart valid = by (row_of m key)
  where
    by_if : (gone : Row) (b : Bool) → delay_of (after m (exempt_if m key gone b)) other row ≤ delay_of m other row
    by_if gone true = omega arith
    by_if gone false =
        delay_by_lists m (put m.rows key (exempted gone)) other row.governing valid
        (λ id measure opened whole. delay_exempted_in m key other id gone measure sorted apart opened whole)

    by : (w : Option Row) → delay_of (after m (exempt m key w)) other row ≤ delay_of m other row
    by None = omega arith
    by (Some gone) = by_if gone (is_exempt gone)

-- the other flight's row stays
pub row_cancelled : (m : State) (key other : Text) (row : Row) → (other ≡ key → ⊥) → row_of m other ≡ Some row → row_of (next m (Cancel key)) other ≡ Some row
row_cancelled m key other row apart found = by (row_of m key)
  where
    by : (w : Option Row) → row_of (after m (cancel m key w)) other ≡ Some row
    by None = found
    by (Some gone) = at-without_other other key m.rows (apart_names other key apart) ∙ found

pub row_exempted : (m : State) (key other : Text) (row : Row) → (other ≡ key → ⊥) → row_of m other ≡ Some row → row_of (next m (Exempt key)) other ≡ Some row
row_exempted m key other row apart found = by (row_of m key)
  where
    by_if : (gone : Row) (b : Bool) → row_of (after m (exempt_if m key gone b)) other ≡ Some row
    by_if gone true = found
    by_if gone false = at-put_other other key (exempted gone) m.rows (apart_names other key apart) ∙ found

    by : (w : Option Row) → row_of (after m (exempt m key w)) other ≡ Some row
    by None = found
    by (Some gone) = by_if gone (is_exempt gone)
