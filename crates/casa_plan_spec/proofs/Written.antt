-- the law of the one way in which a flight is written: with the change, what the view shows is the state with the row
use Rattle.std.proofs.Common.{◌≡◌, ℕ, [], ◌∷◌, Bool, true, false, cond, refl, sym, ap, subst, ◌∙◌, ◌||◌, Option, None, Some, is_some, unwrap_or, if◌then◌else◌}
use Rattle.std.specs.Ordering.{is_eq}
use Rattle.std.specs.Option.{option_map, option_map_or, option_and_then, option_or}
use Rattle.casa_filing.specs.declared.regulation.Measure.{Measure}
use Rattle.casa_flight.specs.declared.row.Row.{Row}
use Rattle.casa_flight.specs.declared.row.Stance.{Stance}
use Rattle.casa_flight.specs.declared.state.State.{State}
use Rattle.casa_filing.specs.Text.{Text, same_text, at_name, put}
use Rattle.casa_filing.specs.FlightPlan.{FlightPlan}
use Rattle.casa_filing.specs.Subject.{regulation, subject}
use Rattle.casa_flight.specs.State.{row_of, measure_of, catalogue, is_governed_by}
use Rattle.casa_flight.specs.Listing.{Listing, listing, list_of, stance, stance_in, stance_of}
use Rattle.casa_flight.specs.Good.{AreInOrder}
use Rattle.casa_filing.proofs.Entries.{text_cmp, same_name, named, apart, at-without_other}
use Rattle.casa_laws.proofs.Kept.{set_at, at-without_same}
use Rattle.casa_laws.proofs.Outcomes.{set_row}
use Rattle.casa_laws.proofs.Lists.{list-with_row, list_cancelled, stance_is, with_same}
use Rattle.casa_laws.proofs.Planned.{list_sorted}
use Rattle.casa_footprint.proofs.OneFlight.{is_over_in}
use Rattle.casa_plan_spec.specs.Sight.{Sight, Written, list_in, row_in, with_flight}
use Rattle.casa_plan_spec.specs.Write.{Stances, with_stances, write_flight, stances}
use Rattle.casa_plan_spec.proofs.Changes.{at-put_by, test_same}
use Rattle.casa_plan_spec.proofs.Naming.{governed_other, forced_either}
use Rattle.casa_plan_spec.proofs.Board.{Shows}
use Rattle.casa_plan_spec.proofs.Crossings.{time_over}
use Rattle.casa_plan_spec.proofs.Stances.{AreOnce, set_in, left_at, stands_at, at-with_stances, at-stances}

-- what is filed once one flight is written or removed
pub row_set : (m : State) (key : Text) (now : Option Row) (q : Text) → AreInOrder m.rows → row_of (set_row m key now) q ≡ (if same_text key q then now else row_of m q)
row_set m key (Some row) q sorted = at-put_by q key row m.rows
row_set m key None q sorted =
    elim (same_text key q) as (λ b. same_text key q ≡ b → row_of (set_row m key None) q ≡ (if b then None else row_of m q)) [
      | true ↦ λ t. subst (λ k. row_of (set_row m key None) k ≡ None) (named key q t) (at-without_same key m.rows sorted)
      | false ↦ λ t. at-without_other q key m.rows (apart key q t)
    ] refl

-- the flight's entry in each list is what its row makes of it
pub list_set : (m : State) (key id : Text) (now : Option Row) (measure : Measure) (l : Listing) → AreInOrder m.rows → measure_of m id ≡ Some measure → list_of m id ≡ Some l
    → list_of (set_row m key now) id ≡ Some (with_flight l key (option_and_then (stance_in id measure) now))
list_set m key id None measure l sorted opened is = list_cancelled m key id measure l sorted opened is
list_set m key id (Some row) measure l sorted opened is =
    list-with_row m key id row measure l sorted opened is ∙ by (stance_in id measure row)
  where
    by : (w : Option Stance) → Some (record l { flights = set_at l.flights key w }) ≡ Some (with_flight l key w)
    by None = refl
    by (Some s) = refl

-- a flight stands in each list as it is to, or it stands there as before
abbrev pub Covers : State → Text → Option Row → Stances → Type 0
Covers s key now es =
    (id : Text) (measure : Measure) → measure_of s id ≡ Some measure
    → unwrap_or (at_name es id) (option_and_then (stance_in id measure) (row_of s key)) ≡ option_and_then (stance_in id measure) now

pub flight_shown : (v : Sight) (w : Written) (s : State) (key : Text) (now : Option Row) (es : Stances) → Shows v w s → AreInOrder s.rows → AreOnce es → Covers s key now es
    → Shows v (write_flight v w key now es) (set_row s key now)
flight_shown v w s key now es shows sorted once covers = record { rows = rows; lists = lists; stands = shows.stands }
  where
    n : State
    n = set_row s key now

    over : (b : Bool) (o : Option (Option Row)) (y z : Option Row) → unwrap_or o y ≡ z → unwrap_or (if b then Some now else o) y ≡ (if b then now else z)
    over true o y z e = refl
    over false o y z e = e

    rows : (q : Text) → unwrap_or (at_name (put w.rows key now) q) (row_in v q) ≡ row_of n q
    rows q =
        ap (λ o. unwrap_or o (row_in v q)) (at-put_by q key now w.rows)
        ∙ over (same_text key q) (at_name w.rows q) (row_in v q) (row_of s q) (shows.rows q)
        ∙ sym (row_set s key now q sorted)

    written : (o : Option (Option Stance)) (p : Option (Option Listing)) (y : Option Listing) → unwrap_or (option_or (option_map (set_in key (unwrap_or p y)) o) p) y ≡ unwrap_or (option_map (set_in key (unwrap_or p y)) o) (unwrap_or p y)
    written None p y = refl
    written (Some s) p y = refl

    no_list : (o : Option (Option Stance)) → unwrap_or (option_map (set_in key None) o) None ≡ None
    no_list None = refl
    no_list (Some s) = refl

    by : (id : Text) (o : Option Measure) → measure_of s id ≡ o → unwrap_or (option_map (set_in key (list_of s id)) (at_name es id)) (list_of s id) ≡ list_of n id
    by id None e =
        ap (λ l. unwrap_or (option_map (set_in key l) (at_name es id)) l) (ap (option_map (listing s.rows id)) e)
        ∙ no_list (at_name es id) ∙ sym (ap (option_map (listing n.rows id)) e)
    by id (Some measure) e =
        ap (λ x. unwrap_or (option_map (set_in key x) (at_name es id)) x) is
        ∙ to (at_name es id) (covers id measure e) ∙ sym (list_set s key id now measure l sorted e is)
      where
        l : Listing
        l = listing s.rows id measure

        is : list_of s id ≡ Some l
        is = ap (option_map (listing s.rows id)) e

        same : (x : Option Stance) → stance_of l key ≡ x → with_flight l key x ≡ l
        same None f = with_same l key None (list_sorted s id l sorted is) f
        same (Some x) f = with_same l key (Some x) (list_sorted s id l sorted is) f

        to : (o : Option (Option Stance)) → unwrap_or o (option_and_then (stance_in id measure) (row_of s key)) ≡ option_and_then (stance_in id measure) now
            → unwrap_or (option_map (set_in key (Some l)) o) (Some l) ≡ Some (with_flight l key (option_and_then (stance_in id measure) now))
        to None c = ap (λ (k : Listing). Some k) (sym (same (option_and_then (stance_in id measure) now) (stance_is s key id measure l (row_of s key) sorted e is refl ∙ c)))
        to (Some x) c = ap (λ (y : Option Stance). Some (with_flight l key y)) c

    lists : (id : Text) → unwrap_or (at_name (with_stances v key w.lists es) id) (list_in v id) ≡ list_of n id
    lists id =
        ap (λ o. unwrap_or o (list_in v id)) (at-with_stances v key w.lists es id once)
        ∙ written (at_name es id) (at_name w.lists id) (list_in v id)
        ∙ ap (λ l. unwrap_or (option_map (set_in key l) (at_name es id)) l) (shows.lists id)
        ∙ by id (measure_of s id) refl

-- of a flight that is subject to what it was subject to, or is written where it was, all lists are covered
pub all_covered : (s : State) (key : Text) (was now : Option Row) → AreInOrder s.regs → ((id : Text) → time_over id (measure_of s id) was ≡ time_over id (measure_of s id) (row_of s key))
    → Covers s key now (stances (catalogue s) was now)
all_covered s key was now sorted same id measure opened =
    ap (λ o. unwrap_or o (option_and_then (stance_in id measure) (row_of s key))) (at-stances s was now id sorted)
    ∙ (λ i. unwrap_or (option_or (left_at (time_over id (opened i) now) ((same id ∙ ap (λ w. time_over id w (row_of s key)) opened) i)) (stands_at id now (time_over id (opened i) now))) (option_and_then (stance_in id measure) (row_of s key)))
    ∙ by (row_of s key) now
  where
    stood : (row : Row) (w : Option ℕ) → unwrap_or (option_or (left_at None w) None) (option_map (stance (is_governed_by id row) row.issued) w) ≡ None
    stood row None = refl
    stood row (Some eto) = refl

    in_place : (row : Row) (has had : Option ℕ) (x : Option Stance) → (had ≡ None → x ≡ None)
        → unwrap_or (option_or (left_at has had) (stands_at id (Some row) has)) x ≡ option_map (stance (is_governed_by id row) row.issued) has
    in_place row None None x h = h refl
    in_place row None (Some old) x h = refl
    in_place row (Some eto) None x h = refl
    in_place row (Some eto) (Some old) x h = refl

    by : (was now : Option Row) → unwrap_or (option_or (left_at (time_over id (Some measure) now) (time_over id (Some measure) was)) (stands_at id now (time_over id (Some measure) now))) (option_and_then (stance_in id measure) was)
        ≡ option_and_then (stance_in id measure) now
    by None None = refl
    by (Some f) None = stood f (subject f.plan (regulation id measure))
    by None (Some row) = in_place row (subject row.plan (regulation id measure)) None None (λ h. refl)
    by (Some f) (Some row) = in_place row (subject row.plan (regulation id measure)) (subject f.plan (regulation id measure)) (stance_in id measure f) (λ h. ap (option_map (stance (is_governed_by id f) f.issued)) h)

-- of a flight that one regulation goes on governing, with its plan, the list of that one is
pub governing_covered : (s : State) (key : Text) (was new : Row) (id : Text) (st : Option Stance) → row_of s key ≡ Some was → new.plan ≡ was.plan → was.governing ≡ Some id → new.governing ≡ Some id
    → ((measure : Measure) → measure_of s id ≡ Some measure → stance_in id measure new ≡ st) → Covers s key (Some new) ((id, st) ∷ [])
governing_covered s key was new id st found plan before after stands q measure opened =
    elim (is_eq (text_cmp q id)) as (λ b. is_eq (text_cmp q id) ≡ b → unwrap_or (cond b (Some st) None) (option_and_then (stance_in q measure) (row_of s key)) ≡ stance_in q measure new) [
      | true ↦ λ t. let here : q ≡ id = same_name q id t in sym (subst (λ k. stance_in k measure new ≡ st) (sym here) (stands measure (subst (λ k. measure_of s k ≡ Some measure) here opened)))
      | false ↦ λ t.
          let apart : same_text id q ≡ false = sym (test_same id q) ∙ t in
          ap (option_and_then (stance_in q measure)) found
          ∙ forced_either was.issued new.issued _ _ (subject was.plan (regulation q measure)) (governed_other was id q before apart) (governed_other new id q after apart)
          ∙ ap (λ (p : FlightPlan). option_map (stance (is_governed_by q new) new.issued) (subject p (regulation q measure))) (sym plan)
    ] refl

-- which lists these are
pub stances_named : (m : State) (was now : Option Row) (id : Text) → AreInOrder m.regs → is_some (at_name (stances (catalogue m) was now) id) ≡ (is_over_in m was id || is_over_in m now id)
stances_named m was now id sorted =
    ap is_some (at-stances m was now id sorted) ∙ named_by now (time_over id (measure_of m id) was) (time_over id (measure_of m id) now) (none now)
    ∙ (λ i. is_over was i || is_over now i)
  where
    none : (now : Option Row) → now ≡ None → time_over id (measure_of m id) now ≡ None
    none now h = ap (time_over id (measure_of m id)) h ∙ by (measure_of m id)
      where
        by : (w : Option Measure) → time_over id w None ≡ None
        by None = refl
        by (Some measure) = refl

    named_by : (now : Option Row) (had has : Option ℕ) → (now ≡ None → has ≡ None) → is_some (option_or (left_at has had) (stands_at id now has)) ≡ (is_some had || is_some has)
    named_by None had has h = ap (λ w. is_some (option_or (left_at w had) None)) (h refl) ∙ to had ∙ sym (ap (λ w. is_some had || is_some w) (h refl))
      where
        to : (had : Option ℕ) → is_some {T = Option Stance} (option_or (left_at None had) None) ≡ (is_some had || false)
        to None = refl
        to (Some eto) = refl
    named_by (Some row) None None h = refl
    named_by (Some row) None (Some eto) h = refl
    named_by (Some row) (Some old) None h = refl
    named_by (Some row) (Some old) (Some eto) h = refl

    is_over : (row : Option Row) → is_some (time_over id (measure_of m id) row) ≡ is_over_in m row id
    is_over row = by (measure_of m id) row
      where
        by : (w : Option Measure) (row : Option Row) → is_some (time_over id w row) ≡ option_map_or (λ (f : Row). option_map_or (λ (measure : Measure). is_some (subject f.plan (regulation id measure))) w false) row false
        by None None = refl
        by None (Some f) = refl
        by (Some measure) None = refl
        by (Some measure) (Some f) = refl
