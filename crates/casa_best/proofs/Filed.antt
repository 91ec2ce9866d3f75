-- a flight that is filed shortens no other flight's delay: once it left again all would be as before
use Rattle.std.proofs.Common.{◌≡◌, ◌≤◌, Bool, true, false, refl, sym, ◌∙◌, ap, subst, arith, List, Option, None, Some}
use Rattle.std.specs.Prelude.{nat_lt}
use Rattle.std.specs.Ordering.{is_eq}
use Rattle.std.specs.Option.{option_map, option_and_then}
use Rattle.std.specs.BTreeMap.{is_at}
use Rattle.casa_grid.specs.Profile.{IsProfile}
use Rattle.casa_filing.specs.declared.regulation.Measure.{Measure}
use Rattle.casa_filing.specs.Text.{Text, at_name, put, without}
use Rattle.casa_filing.specs.FlightPlan.{FlightPlan}
use Rattle.casa_filing.proofs.Entries.{text_cmp, same_name, sorted-put, sorted-remove, at-put_same, at-put_other, at-without_other}
use Rattle.casa_flight.specs.declared.call.Call.TheVariants.{File, Cancel}
use Rattle.casa_flight.specs.declared.row.Row.{Row}
use Rattle.casa_flight.specs.declared.row.Stance.{Stance}
use Rattle.casa_flight.specs.declared.state.State.{State}
use Rattle.casa_flight.specs.State.{row_of, measure_of, with_row}
use Rattle.casa_flight.specs.Listing.{Listing, listing, list_of, place_of, stance_of, delay_of, governing_list}
use Rattle.casa_flight.specs.Entry.{situation, row_after_entry}
use Rattle.casa_flight.specs.Steps.{after, cancel, file, new_row, next}
use Rattle.casa_flight.specs.Good.{AreInOrder}
use Rattle.casa_laws.proofs.Kept.{at-without_same, same_entries}
use Rattle.casa_best.specs.Serving.{IsNoLater}
use Rattle.casa_best.proofs.Left.{apart_names, delay_cancelled, place-without}

-- an entry put in and taken out again
without-put : {X : Type 0} (k : Text) (x : X) (es : List (Text × X)) → AreInOrder es → at_name es k ≡ None → without (put es k x) k ≡ es
without-put k x es sorted absent =
    same_entries (without (put es k x) k) es (sorted-remove (is_at (text_cmp k)) (put es k x) (sorted-put k x es sorted)) sorted
    (λ q. elim (is_eq (text_cmp q k)) as (λ b. is_eq (text_cmp q k) ≡ b → at_name (without (put es k x) k) q ≡ at_name es q) [
      | true ↦ λ same.
          subst (λ (t : Text). at_name (without (put es k x) k) t ≡ at_name es t) (sym (same_name q k same))
          (at-without_same k (put es k x) (sorted-put k x es sorted) ∙ sym absent)
      | false ↦ λ other. at-without_other q k (put es k x) other ∙ at-put_other q k x es other
    ] refl)

-- the list with one flight more: each other one's place is no sooner
pub place-entered : (l : Listing) (key other : Text) (stands : Stance) → AreInOrder l.flights → stance_of l key ≡ None → (other ≡ key → ⊥)
    → IsNoLater (place_of l other) (place_of (record l { flights = put l.flights key stands }) other)
place-entered l key other stands sorted absent apart =
    subst (λ (fs : List (Text × Stance)). IsNoLater (place_of (record l { flights = fs }) other) (place_of (record l { flights = put l.flights key stands }) other))
    (without-put key stands l.flights sorted absent)
    (place-without (record l { flights = put l.flights key stands }) key other (sorted-put key stands l.flights sorted) apart)

-- a flight that was not there, and is cancelled again
cancelled_again : (m : State) (key : Text) (row : Row) → AreInOrder m.rows → row_of m key ≡ None → next (with_row m key row) (Cancel key) ≡ m
cancelled_again m key row sorted absent =
    ap (λ (w : Option Row). after (with_row m key row) (cancel (with_row m key row) key w)) (at-put_same key row m.rows)
    ∙ ap (λ (rows : List (Text × Row)). record m { rows = rows }) (without-put key row m.rows sorted absent)

-- the profile of a governing list does not depend on the flights
profile_in : (m : State) (rows : List (Text × Row)) (governing : Option Text) → ((l : Listing) → option_and_then (list_of m) governing ≡ Some l → IsProfile l.profile)
    → (l : Listing) → option_and_then (list_of (record m { rows = rows })) governing ≡ Some l → IsProfile l.profile
profile_in m rows None valid l is = cc
profile_in m rows (Some id) valid l is = by (measure_of m id) refl is
  where
    by : (w : Option Measure) → measure_of m id ≡ w → option_map (listing rows id) w ≡ Some l → IsProfile l.profile
    by None closed there = cc
    by (Some measure) opened there =
        let same : listing rows id measure ≡ l = cc in
        subst (λ (k : Listing). IsProfile k.profile) same (valid (listing m.rows id measure) (ap (option_map (listing m.rows id)) opened))

delay_added : (m : State) (key other : Text) (row new : Row) → AreInOrder m.rows → row_of m key ≡ None → (other ≡ key → ⊥) → ((l : Listing) → governing_list m row ≡ Some l → IsProfile l.profile)
    → delay_of m other row ≤ delay_of (with_row m key new) other row
delay_added m key other row new sorted absent apart valid =
    subst (λ (n : State). delay_of n other row ≤ delay_of (with_row m key new) other row) (cancelled_again m key new sorted absent)
    (delay_cancelled (with_row m key new) key other row (sorted-put key new m.rows sorted) apart (profile_in m (put m.rows key new) row.governing valid))

pub delay_filed : (m : State) (plan : FlightPlan) (other : Text) (row : Row) → AreInOrder m.rows → ((l : Listing) → governing_list m row ≡ Some l → IsProfile l.profile) → (other ≡ plan.key → ⊥)
    → delay_of m other row ≤ delay_of (next m (File plan)) other row
delay_filed m plan other row sorted valid apart = by (row_of m plan.key) refl (nat_lt plan.eobt m.clock)
  where
    by : (w : Option Row) → row_of m plan.key ≡ w → (late : Bool) → delay_of m other row ≤ delay_of (after m (file m plan w late)) other row
    by (Some there) found late = omega arith
    by None absent true = omega arith
    by None absent false = delay_added m plan.key other row (row_after_entry (situation m) plan.key (new_row plan)) sorted absent apart valid

pub row_filed : (m : State) (plan : FlightPlan) (other : Text) (row : Row) → (other ≡ plan.key → ⊥) → row_of m other ≡ Some row → row_of (next m (File plan)) other ≡ Some row
row_filed m plan other row apart found = by (row_of m plan.key) (nat_lt plan.eobt m.clock)
  where
    by : (w : Option Row) (late : Bool) → row_of (after m (file m plan w late)) other ≡ Some row
    by (Some there) late = found
    by None true = found
    by None false =
        at-put_other other plan.key (row_after_entry (situation m) plan.key (new_row plan)) m.rows (apart_names other plan.key apart) ∙ found
