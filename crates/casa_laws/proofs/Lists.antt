-- the lists of a state, once a row is written or removed
use Rattle.std.proofs.Common.{◌≡◌, ℕ, sym, ap, ◌∙◌, Option, None, Some}
use Rattle.std.specs.Option.{option_map, option_and_then}
use Rattle.casa_filing.specs.declared.regulation.Measure.{Measure}
use Rattle.casa_flight.specs.declared.row.Row.{Row}
use Rattle.casa_flight.specs.declared.row.Stance.{Stance}
use Rattle.casa_flight.specs.declared.row.Stance.TheVariants.{Competing}
use Rattle.casa_flight.specs.declared.state.State.{State}
use Rattle.casa_filing.specs.Text.{Text, put, without}
use Rattle.casa_flight.specs.State.{row_of, measure_of, with_row}
use Rattle.casa_flight.specs.Listing.{Listing, listing, list_of, stance_in, stance_of, place_of}
use Rattle.casa_flight.specs.Entry.{with_competitor}
use Rattle.casa_flight.specs.Good.{AreInOrder}
use Rattle.casa_laws.proofs.Kept.{set_at, kept-put, kept-without, at-kept, without_absent, set_at_same}

-- the list of an open regulation
list_is : (m : State) (id : Text) (measure : Measure) (l : Listing) → measure_of m id ≡ Some measure → list_of m id ≡ Some l → listing m.rows id measure ≡ l
list_is m id measure l opened is =
    let both : Some (listing m.rows id measure) ≡ Some l = ap (option_map (listing m.rows id)) (sym opened) ∙ is in
    cc

-- the entry of the written row is what the row makes of it, and the others stay
pub list-with_row : (m : State) (key id : Text) (row : Row) (measure : Measure) (l : Listing) → AreInOrder m.rows → measure_of m id ≡ Some measure → list_of m id ≡ Some l → list_of (with_row m key row) id ≡ Some (record l { flights = set_at l.flights key (stance_in id measure row) })
list-with_row m key id row measure l sorted opened is =
    ap (option_map (listing (put m.rows key row) id)) opened
    ∙ ap (λ fs. Some (record { profile = measure.profile; flights = fs })) (kept-put (stance_in id measure) key row m.rows sorted)
    ∙ ap (λ (k : Listing). Some (record k { flights = set_at k.flights key (stance_in id measure row) })) (list_is m id measure l opened is)

pub list_puts : (m : State) (key id : Text) (row : Row) (measure : Measure) (l : Listing) (s : Stance) → AreInOrder m.rows → measure_of m id ≡ Some measure → list_of m id ≡ Some l → stance_in id measure row ≡ Some s → list_of (with_row m key row) id ≡ Some (record l { flights = put l.flights key s })
list_puts m key id row measure l s sorted opened is stands =
    list-with_row m key id row measure l sorted opened is ∙ ap (λ w. Some (record l { flights = set_at l.flights key w })) stands

pub list_removes : (m : State) (key id : Text) (row : Row) (measure : Measure) (l : Listing) → AreInOrder m.rows → measure_of m id ≡ Some measure → list_of m id ≡ Some l → stance_in id measure row ≡ None → list_of (with_row m key row) id ≡ Some (record l { flights = without l.flights key })
list_removes m key id row measure l sorted opened is stands =
    list-with_row m key id row measure l sorted opened is ∙ ap (λ w. Some (record l { flights = set_at l.flights key w })) stands

pub list_spares : (m : State) (key id : Text) (row : Row) (measure : Measure) (l : Listing) → AreInOrder m.rows → measure_of m id ≡ Some measure → list_of m id ≡ Some l → stance_in id measure row ≡ None → stance_of l key ≡ None → list_of (with_row m key row) id ≡ Some l
list_spares m key id row measure l sorted opened is stands absent =
    list_removes m key id row measure l sorted opened is stands ∙ ap (λ fs. Some (record l { flights = fs })) (without_absent key l.flights absent)

pub list_cancelled : (m : State) (key id : Text) (measure : Measure) (l : Listing) → AreInOrder m.rows → measure_of m id ≡ Some measure → list_of m id ≡ Some l → list_of (record m { rows = without m.rows key }) id ≡ Some (record l { flights = without l.flights key })
list_cancelled m key id measure l sorted opened is =
    ap (option_map (listing (without m.rows key) id)) opened
    ∙ ap (λ fs. Some (record { profile = measure.profile; flights = fs })) (kept-without (stance_in id measure) key m.rows sorted)
    ∙ ap (λ (k : Listing). Some (record k { flights = without k.flights key })) (list_is m id measure l opened is)

-- a flight stands in a list as its row says
pub stance_is : (m : State) (key id : Text) (measure : Measure) (l : Listing) (w : Option Row) → AreInOrder m.rows → measure_of m id ≡ Some measure → list_of m id ≡ Some l → row_of m key ≡ w → stance_of l key ≡ option_and_then (stance_in id measure) w
stance_is m key id measure l w sorted opened is found =
    ap (λ (k : Listing). stance_of k key) (sym (list_is m id measure l opened is))
    ∙ at-kept (stance_in id measure) key m.rows sorted
    ∙ ap (option_and_then (stance_in id measure)) found

-- a flight set to stand as it stands already
pub with_same : (l : Listing) (key : Text) (w : Option Stance) → AreInOrder l.flights → stance_of l key ≡ w → record l { flights = set_at l.flights key w } ≡ l
with_same l key w sorted stands = ap (λ fs. record l { flights = fs }) (set_at_same key w l.flights sorted stands)

-- as a competitor it would have the place that it has
pub place_kept : (l : Listing) (key : Text) (eto : ℕ) → AreInOrder l.flights → stance_of l key ≡ Some (Competing eto) → place_of (with_competitor l key eto) key ≡ place_of l key
place_kept l key eto sorted stands =
    ap (λ (k : Listing). place_of k key) (with_same l key (Some (Competing eto)) sorted stands)
