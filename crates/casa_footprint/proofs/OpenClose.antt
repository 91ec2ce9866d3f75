-- what OpenReg and CloseReg leave as it was
use Rattle.std.proofs.Common.{◌≡◌, List, [], ◌∷◌, Bool, true, false, refl, sym, ap, subst, ◌∙◌, Option, None, Some, ◌&&◌, is_some, map, MatchOption, ℕ}
use Rattle.std.specs.Option.{option_map, option_map_or}
use Rattle.std.specs.List.{AllByRecursion, cons_option, list_any}
use Rattle.std.specs.BTreeMap.{is_at}
use Rattle.std.specs.List.Sorted.{IsStrictlySortedBy}
use Rattle.std.proofs.lemmas.Bool.{and_from, or_parts}
use Rattle.casa_grid.specs.declared.period.Period.{Period}
use Rattle.casa_flight.specs.declared.call.Call.TheVariants.{OpenReg, CloseReg}
use Rattle.casa_filing.specs.declared.regulation.Regulation.{Regulation}
use Rattle.casa_filing.specs.declared.regulation.Measure.{Measure}
use Rattle.casa_flight.specs.declared.row.Row.{Row}
use Rattle.casa_flight.specs.declared.row.Stance.{Stance}
use Rattle.casa_flight.specs.declared.state.State.{State}
use Rattle.casa_filing.specs.Text.{Text, same_text, put}
use Rattle.casa_filing.specs.FlightPlan.{FlightPlan}
use Rattle.casa_filing.specs.Subject.{regulation, subject, is_gone}
use Rattle.casa_flight.specs.State.{row_of, measure_of, is_exempt, is_governed_by, ungoverned}
use Rattle.casa_flight.specs.Listing.{listing, list_of, stance, stance_in, filter_map_values}
use Rattle.casa_flight.specs.Entry.{enter_all}
use Rattle.casa_flight.specs.Steps.{flights_over, may_compete, take_in, ungoverned_if, state_without_regulation}
use Rattle.casa_flight.specs.Good.{IsGood, IsGoodRow, IsFree, IsGoverned}
use Rattle.casa_filing.proofs.Entries.{text_cmp, all_at, all-each, all-both, each_found, at-map, at-put_other, at-without_other, keys-map, sorted-put, sorted-remove, apart}
use Rattle.casa_laws.proofs.Outcomes.{open_cases, close_cases}
use Rattle.casa_laws.proofs.EnterAll.{row-enter_all, clock-enter_all, all-flights_over, others}
use Rattle.casa_laws.proofs.RegMessages.{clock-take_in, competes, freed_plan}
use Rattle.casa_footprint.specs.Items.{ItemName, the_clock, the_catalogue, a_row, a_list, moment, row_or_none, list_or_none, contents}
use Rattle.casa_footprint.specs.Footprint.{is_subject, is_list_of, governs, enters, enters_at, would_write}
use Rattle.casa_footprint.proofs.EnterAll.{IsOrdered, list-enter_all}
use Rattle.casa_footprint.proofs.Forms.{Spares, StepSpares}

-- a flight that may compete is subject to nothing
pub subject_to_none : (m : State) (key : Text) (row : Row) (id : Text) → IsGood m → row_of m key ≡ Some row → may_compete m.clock row ≡ true → is_subject m row.plan id ≡ false
subject_to_none m key row id good found h =
    let parts = competes (is_exempt row) (is_gone m.clock row.plan) row.governing h in
    let here : IsGoodRow m.clock m.regs key row = all_at (λ (e : Text × Row). IsGoodRow m.clock m.regs e.0 e.1) key row m.rows good.rows found in
    let free : IsFree m.clock m.regs row = subst (λ (w : Option Text). MatchOption w (IsFree m.clock m.regs row) (IsGoverned m.clock m.regs row)) parts.2 here.standing in
    by (free.left parts.0 parts.1) (measure_of m id) refl
  where
    by : AllByRecursion (λ (e : Text × Measure). subject row.plan (regulation e.0 e.1) ≡ None) m.regs → (w : Option Measure) → measure_of m id ≡ w → option_map_or (λ (measure : Measure). is_some (subject row.plan (regulation id measure))) w false ≡ false
    by out None e = refl
    by out (Some measure) e = ap is_some (all_at (λ (e : Text × Measure). subject row.plan (regulation e.0 e.1) ≡ None) id measure m.regs out e)

-- what the entry of the flights leaves as it was, where a regulation opens or ends later
pub row_taken : (m : State) (id : Text) (measure : Measure) (key : Text) → IsGood m → enters_at m (regulation id measure) key ≡ false → row_of (take_in m id measure) key ≡ row_of m key
row_taken m id measure key good n =
    let r : Regulation = regulation id measure in
    row-enter_all (record m { regs = put m.regs id measure }) key (flights_over (may_compete m.clock) r m.rows)
    (all-flights_over (λ k. same_text k key ≡ false) (may_compete m.clock) r m.rows
    (all-each (λ (e : Text × Row). enters m r e.1 ≡ true → same_text e.0 key ≡ false) (λ (e : Text × Row). may_compete m.clock e.1 ≡ true → is_some (subject e.1.plan r) ≡ true → same_text e.0 key ≡ false)
    (λ e f a b. f (and_from _ _ a b)) m.rows (others m key (enters m r) good n)))

pub list_taken : (m : State) (id : Text) (measure : Measure) (other : Text) → IsGood m → same_text id other ≡ false → list_of (take_in m id measure) other ≡ list_of m other
list_taken m id measure other good n =
    let widened : State = record m { regs = put m.regs id measure } in
    let r : Regulation = regulation id measure in
    let measures : measure_of widened other ≡ measure_of m other = at-put_other other id measure m.regs (apart id other n) in
    list-enter_all widened other (flights_over (may_compete m.clock) r m.rows) (good.rows_in_order, sorted-put id measure m.regs good.regs_in_order)
    (all-flights_over (λ k. is_list_of widened k other ≡ false) (may_compete m.clock) r m.rows
    (all-each (λ (e : Text × Row). row_of m e.0 ≡ Some e.1) (λ (e : Text × Row). may_compete m.clock e.1 ≡ true → is_some (subject e.1.plan r) ≡ true → is_list_of widened e.0 other ≡ false)
    (λ e f a b. ap (λ (w : Option Row). option_map_or (λ (row : Row). is_subject widened row.plan other) w false) f
    ∙ ap (λ (w : Option Measure). option_map_or (λ (y : Measure). is_some (subject e.1.plan (regulation other y))) w false) measures
    ∙ subject_to_none m e.0 e.1 other good f a)
    m.rows (each_found m.rows good.rows_in_order)))
    ∙ ap (option_map (listing m.rows other)) measures

pub open_spares : (id loc : Text) (profile : List Period) → Spares (OpenReg id loc profile)
open_spares id loc profile m good i = open_cases m (StepSpares m (OpenReg id loc profile) i) (λ r h. refl) id loc profile (λ absent. takes i)
  where
    measure : Measure
    measure = record { loc = loc; profile = profile }

    takes : (i : ItemName) → would_write m (OpenReg id loc profile) i ≡ false → contents (take_in m id measure) i ≡ contents m i
    takes the_clock h = ap moment (clock-take_in m id measure)
    takes the_catalogue h = cc
    takes (a_row key) h = ap row_or_none (row_taken m id measure key good h)
    takes (a_list other) h = ap list_or_none (list_taken m id measure other good h)

none_from_any : {X : Type 0} (p : X → Bool) (xs : List X) → list_any p xs ≡ false → AllByRecursion (λ x. p x ≡ false) xs
none_from_any p [] h = tt
none_from_any p (x ∷ xs) h = let both = or_parts (p x) (list_any p xs) h in (both.0, none_from_any p xs both.1)

-- a flight that is not subject to a regulation stays out of its list, freed or not
freed_stance : (other : Text) (measure : Measure) (row : Row) (b : Bool) → (b && is_some (subject row.plan (regulation other measure))) ≡ false → stance_in other measure (ungoverned_if b row) ≡ stance_in other measure row
freed_stance other measure row false h = refl
freed_stance other measure row true h = by (subject row.plan (regulation other measure)) h
  where
    by : (w : Option ℕ) → is_some w ≡ false → option_map (stance (is_governed_by other (ungoverned row)) None) w ≡ option_map (stance (is_governed_by other row) row.issued) w
    by None h = refl
    by (Some eto) h = cc

freed_flights : (id other : Text) (measure : Measure) (es : List (Text × Row)) → AllByRecursion (λ (e : Text × Row). (is_governed_by id e.1 && is_some (subject e.1.plan (regulation other measure))) ≡ false) es
    → filter_map_values (stance_in other measure) (map (λ (e : Text × Row). (e.0, ungoverned_if (is_governed_by id e.1) e.1)) es) ≡ filter_map_values (stance_in other measure) es
freed_flights id other measure [] h = refl
freed_flights id other measure (e ∷ es) h = λ i. cons_option (option_map (λ (y : Stance). (e.0, y)) (freed_stance other measure e.1 (is_governed_by id e.1) h.0 i)) (freed_flights id other measure es h.1 i)

pub close_spares : (id : Text) → Spares (CloseReg id)
close_spares id m good i = close_cases m (StepSpares m (CloseReg id) i) (λ r h. refl) id (λ measure opened. frees (regulation id measure) i)
  where
    ordered : IsOrdered (state_without_regulation m id)
    ordered = (subst (IsStrictlySortedBy text_cmp) (sym (keys-map (λ (e : Text × Row). ungoverned_if (is_governed_by id e.1) e.1) m.rows)) good.rows_in_order, sorted-remove (is_at (text_cmp id)) m.regs good.regs_in_order)

    found : AllByRecursion (λ (e : Text × Row). row_of m e.0 ≡ Some e.1) m.rows
    found = each_found m.rows good.rows_in_order

    measures : (other : Text) → same_text id other ≡ false → measure_of (state_without_regulation m id) other ≡ measure_of m other
    measures other n = at-without_other other id m.regs (apart id other n)

    row-closed : (key : Text) → row_of (state_without_regulation m id) key ≡ option_map (λ (row : Row). ungoverned_if (is_governed_by id row) row) (row_of m key)
    row-closed key = at-map (λ _ row. ungoverned_if (is_governed_by id row) row) key m.rows

    row : (r : Regulation) (key : Text) → governs m id key ≡ false → row_of (enter_all (state_without_regulation m id) (flights_over (is_governed_by id) r m.rows)) key ≡ row_of m key
    row r key n =
        row-enter_all (state_without_regulation m id) key (flights_over (is_governed_by id) r m.rows)
        (all-flights_over (λ k. same_text k key ≡ false) (is_governed_by id) r m.rows
        (all-each (λ (e : Text × Row). is_governed_by id e.1 ≡ true → same_text e.0 key ≡ false) (λ (e : Text × Row). is_governed_by id e.1 ≡ true → is_some (subject e.1.plan r) ≡ true → same_text e.0 key ≡ false)
        (λ e f a b. f a) m.rows (others m key (is_governed_by id) good n)))
        ∙ row-closed key ∙ same (row_of m key) n
      where
        same : (w : Option Row) → option_map_or (is_governed_by id) w false ≡ false → option_map (λ (row : Row). ungoverned_if (is_governed_by id row) row) w ≡ w
        same None n = refl
        same (Some row) n = ap (λ b. Some (ungoverned_if b row)) n

    list : (r : Regulation) (other : Text) → same_text id other ≡ false → list_any (λ (e : Text × Row). is_governed_by id e.1 && is_subject m e.1.plan other) m.rows ≡ false
        → list_of (enter_all (state_without_regulation m id) (flights_over (is_governed_by id) r m.rows)) other ≡ list_of m other
    list r other n a =
        list-enter_all (state_without_regulation m id) other (flights_over (is_governed_by id) r m.rows) ordered
        (all-flights_over (λ k. is_list_of (state_without_regulation m id) k other ≡ false) (is_governed_by id) r m.rows
        (all-each (λ (e : Text × Row). (row_of m e.0 ≡ Some e.1) × ((is_governed_by id e.1 && is_subject m e.1.plan other) ≡ false)) (λ (e : Text × Row). is_governed_by id e.1 ≡ true → is_some (subject e.1.plan r) ≡ true → is_list_of (state_without_regulation m id) e.0 other ≡ false)
        (λ e f b s. out e f.0 (sym (ap (λ t. t && is_subject m e.1.plan other) b) ∙ f.1))
        m.rows (all-both (λ (e : Text × Row). row_of m e.0 ≡ Some e.1) (λ (e : Text × Row). (is_governed_by id e.1 && is_subject m e.1.plan other) ≡ false) m.rows found none)))
        ∙ ap (option_map (listing (state_without_regulation m id).rows other)) (measures other n) ∙ flights (measure_of m other) refl
      where
        none : AllByRecursion (λ (e : Text × Row). (is_governed_by id e.1 && is_subject m e.1.plan other) ≡ false) m.rows
        none = none_from_any (λ (e : Text × Row). is_governed_by id e.1 && is_subject m e.1.plan other) m.rows a

        out : (e : Text × Row) → row_of m e.0 ≡ Some e.1 → is_subject m e.1.plan other ≡ false → is_list_of (state_without_regulation m id) e.0 other ≡ false
        out e f s =
            ap (λ (w : Option Row). option_map_or (λ (row : Row). is_subject (state_without_regulation m id) row.plan other) w false) (row-closed e.0 ∙ ap (option_map (λ (row : Row). ungoverned_if (is_governed_by id row) row)) f)
            ∙ ap (λ (p : FlightPlan). is_subject (state_without_regulation m id) p other) (freed_plan (is_governed_by id e.1) e.1)
            ∙ ap (λ (w : Option Measure). option_map_or (λ (y : Measure). is_some (subject e.1.plan (regulation other y))) w false) (measures other n) ∙ s

        flights : (w : Option Measure) → measure_of m other ≡ w → option_map (listing (state_without_regulation m id).rows other) w ≡ option_map (listing m.rows other) w
        flights None e = refl
        flights (Some measure) e =
            let each : AllByRecursion (λ (e : Text × Row). (is_governed_by id e.1 && is_some (subject e.1.plan (regulation other measure))) ≡ false) m.rows =
            all-each (λ (e : Text × Row). (is_governed_by id e.1 && is_subject m e.1.plan other) ≡ false) (λ (e : Text × Row). (is_governed_by id e.1 && is_some (subject e.1.plan (regulation other measure))) ≡ false)
            (λ x f. ap (λ (w : Option Measure). is_governed_by id x.1 && option_map_or (λ (y : Measure). is_some (subject x.1.plan (regulation other y))) w false) (sym e) ∙ f) m.rows none in
            λ i. Some (record { profile = measure.profile; flights = freed_flights id other measure m.rows each i })

    frees : (r : Regulation) (i : ItemName) → would_write m (CloseReg id) i ≡ false
        → contents (enter_all (state_without_regulation m id) (flights_over (is_governed_by id) r m.rows)) i ≡ contents m i
    frees r the_clock h = ap moment (clock-enter_all (state_without_regulation m id) (flights_over (is_governed_by id) r m.rows))
    frees r the_catalogue h = cc
    frees r (a_row key) h = ap row_or_none (row r key h)
    frees r (a_list other) h =
        let both = or_parts (same_text id other) (list_any (λ (e : Text × Row). is_governed_by id e.1 && is_subject m e.1.plan other) m.rows) h in
        ap list_or_none (list r other both.0 both.1)
