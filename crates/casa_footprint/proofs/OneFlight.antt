-- a call that writes or removes the row of one flight
use Rattle.std.proofs.Common.{◌≡◌, ℕ, Bool, true, false, refl, sym, ap, ◌∙◌, Option, None, Some, is_some, ◌||◌}
use Rattle.std.specs.Option.{option_map, option_and_then, option_map_or}
use Rattle.std.proofs.lemmas.Bool.{or_parts}
use Rattle.casa_filing.specs.declared.regulation.Measure.{Measure}
use Rattle.casa_flight.specs.declared.row.Row.{Row}
use Rattle.casa_flight.specs.declared.state.State.{State}
use Rattle.casa_filing.specs.Text.{Text, same_text}
use Rattle.casa_filing.specs.Subject.{regulation, subject}
use Rattle.casa_flight.specs.State.{row_of, measure_of, with_row, is_governed_by}
use Rattle.casa_flight.specs.Listing.{Listing, listing, list_of, stance, stance_in, stance_of}
use Rattle.casa_flight.specs.Good.{AreInOrder, IsGood}
use Rattle.casa_filing.proofs.Entries.{at-put_other, at-without_other, apart}
use Rattle.casa_laws.proofs.Kept.{without_absent}
use Rattle.casa_laws.proofs.Lists.{list_spares, list_cancelled, stance_is}
use Rattle.casa_laws.proofs.Outcomes.{set_row}
use Rattle.casa_footprint.specs.Items.{ItemName, the_clock, the_catalogue, a_row, a_list, row_or_none, list_or_none, contents}
use Rattle.casa_footprint.specs.Footprint.{is_subject, is_list_of}
use Rattle.casa_footprint.proofs.Entering.{subject_at}

pub list_of_own : (m : State) (key : Text) (old : Row) (id : Text) → row_of m key ≡ Some old → is_list_of m key id ≡ is_subject m old.plan id
list_of_own m key old id found = ap (λ (w : Option Row). option_map_or (λ (row : Row). is_subject m row.plan id) w false) found

-- what such a call leaves as it was
pub other_row : (m : State) (key : Text) (row : Row) (other : Text) → same_text key other ≡ false → row_of (with_row m key row) other ≡ row_of m other
other_row m key row other h = at-put_other other key row m.rows (apart key other h)

no_stance : (id : Text) (measure : Measure) (row : Row) → is_some (subject row.plan (regulation id measure)) ≡ false → stance_in id measure row ≡ None
no_stance id measure row h = by (subject row.plan (regulation id measure)) h
  where
    by : (w : Option ℕ) → is_some w ≡ false → option_map (stance (is_governed_by id row) row.issued) w ≡ None
    by None h = refl
    by (Some eto) h = cc

-- a flight stands in none but its lists
pub stands_nowhere : (m : State) (key id : Text) (measure : Measure) → AreInOrder m.rows → measure_of m id ≡ Some measure → is_list_of m key id ≡ false → stance_of (listing m.rows id measure) key ≡ None
stands_nowhere m key id measure sorted opened off =
    stance_is m key id measure (listing m.rows id measure) (row_of m key) sorted opened (ap (option_map (listing m.rows id)) opened) refl ∙ by (row_of m key) off
  where
    by : (w : Option Row) → option_map_or (λ (row : Row). is_subject m row.plan id) w false ≡ false → option_and_then (stance_in id measure) w ≡ None
    by None h = refl
    by (Some row) h = no_stance id measure row (sym (subject_at m row.plan id measure opened) ∙ h)

pub other_list : (m : State) (key : Text) (row : Row) (id : Text) → AreInOrder m.rows → is_list_of m key id ≡ false → is_subject m row.plan id ≡ false → list_of (with_row m key row) id ≡ list_of m id
other_list m key row id sorted old new = by (measure_of m id) refl
  where
    by : (w : Option Measure) → measure_of m id ≡ w → list_of (with_row m key row) id ≡ list_of m id
    by None e = ap (λ (w : Option Measure). option_map (listing (with_row m key row).rows id) w) e ∙ sym (ap (option_map (listing m.rows id)) e)
    by (Some measure) e =
        let l : Listing = listing m.rows id measure in
        let is : list_of m id ≡ Some l = ap (option_map (listing m.rows id)) e in
        list_spares m key id row measure l sorted e is (no_stance id measure row (sym (subject_at m row.plan id measure e) ∙ new)) (stands_nowhere m key id measure sorted e old)
        ∙ sym is

-- nor does the list of a regulation to which a removed flight is not subject
other_list_without : (m : State) (key id : Text) → AreInOrder m.rows → is_list_of m key id ≡ false → list_of (set_row m key None) id ≡ list_of m id
other_list_without m key id sorted old = by (measure_of m id) refl
  where
    n : State
    n = set_row m key None

    by : (w : Option Measure) → measure_of m id ≡ w → list_of n id ≡ list_of m id
    by None e = ap (option_map (listing n.rows id)) e ∙ sym (ap (option_map (listing m.rows id)) e)
    by (Some measure) e =
        let l : Listing = listing m.rows id measure in
        let is : list_of m id ≡ Some l = ap (option_map (listing m.rows id)) e in
        list_cancelled m key id measure l sorted e is
        ∙ ap (λ fs. Some (record l { flights = fs })) (without_absent key l.flights (stands_nowhere m key id measure sorted e old))
        ∙ sym is

-- whether a flight with this row, if there is one, is subject to a regulation
abbrev pub is_over_in : State → Option Row → Text → Bool
is_over_in m row id = option_map_or (λ (f : Row). is_subject m f.plan id) row false

-- what differs with this row of a flight, or with none: the row, and the lists that the flight had or has
abbrev pub has_written : State → Text → Option Row → ItemName → Bool
has_written m key now the_clock = false
has_written m key now the_catalogue = false
has_written m key now (a_row other) = same_text key other
has_written m key now (a_list id) = is_over_in m (row_of m key) id || is_over_in m now id

-- all else stays
pub others_kept : (m : State) (key : Text) (now : Option Row) → IsGood m → (i : ItemName) → has_written m key now i ≡ false → contents (set_row m key now) i ≡ contents m i
others_kept m key now good the_clock h = refl
others_kept m key now good the_catalogue h = refl
others_kept m key (Some row) good (a_row other) h = ap row_or_none (other_row m key row other h)
others_kept m key None good (a_row other) h = ap row_or_none (at-without_other other key m.rows (apart key other h))
others_kept m key (Some row) good (a_list id) h =
    let both = or_parts (is_list_of m key id) (is_subject m row.plan id) h in
    ap list_or_none (other_list m key row id good.rows_in_order both.0 both.1)
others_kept m key None good (a_list id) h =
    ap list_or_none (other_list_without m key id good.rows_in_order (or_parts (is_list_of m key id) false h).0)

-- a flight that keeps its plan keeps its lists
pub either_same : (b : Bool) → (b || b) ≡ b
either_same true = refl
either_same false = refl

pub own_lists_written : (m : State) (key id : Text) (row new : Row) → row_of m key ≡ Some row → new.plan ≡ row.plan → is_list_of m key id ≡ (is_over_in m (row_of m key) id || is_subject m new.plan id)
own_lists_written m key id row new found kept =
    sym (either_same (is_list_of m key id))
    ∙ (λ i. is_list_of m key id || is_over_in m (found i) id)
    ∙ (λ i. is_list_of m key id || is_subject m (sym kept i) id)
