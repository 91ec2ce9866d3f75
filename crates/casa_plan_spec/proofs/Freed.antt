-- a regulation closes: the lists that stay as its flights are freed
use Rattle.std.proofs.Common.{◌≡◌, ℕ, List, [], ◌∷◌, map, Bool, true, false, refl, sym, ap, ◌∙◌, Option, None, Some, if◌then◌else◌}
use Rattle.std.specs.Option.{option_map, option_map_or}
use Rattle.std.specs.List.{cons_option, filter_map}
use Rattle.casa_filing.specs.declared.regulation.Measure.{Measure}
use Rattle.casa_flight.specs.declared.row.Row.{Row}
use Rattle.casa_flight.specs.declared.row.Stance.{Stance}
use Rattle.casa_flight.specs.declared.comp.Comp.{Comp}
use Rattle.casa_flight.specs.declared.state.State.{State}
use Rattle.casa_filing.specs.Text.{Text, same_text}
use Rattle.casa_filing.specs.Subject.{regulation, subject}
use Rattle.casa_flight.specs.State.{row_of, measure_of, is_governed_by}
use Rattle.casa_flight.specs.Listing.{listing, list_of, stance, stance_in, filter_map_values, sorted_by, is_before}
use Rattle.casa_flight.specs.Steps.{ungoverned_if, state_without_regulation, flights_over}
use Rattle.casa_filing.proofs.Entries.{apart, named, at-map, at-without_other}
use Rattle.casa_plan_spec.specs.Closing.{governed_comp}
use Rattle.casa_plan_spec.proofs.Naming.{other_text, forced_either}

-- what one regulation governs, no other governs
governed_once : (id other : Text) (row : Row) → same_text id other ≡ false → is_governed_by id row ≡ true → is_governed_by other row ≡ false
governed_once id other row apart_is h = by row.governing h
  where
    by : (g : Option Text) → option_map_or (same_text id) g false ≡ true → option_map_or (same_text other) g false ≡ false
    by None h = cc
    by (Some q) h = ap (same_text other) (sym (named id q h)) ∙ other_text id other apart_is

freed_stance : (id other : Text) (measure : Measure) (row : Row) (b : Bool) → same_text id other ≡ false → is_governed_by id row ≡ b → stance_in other measure (ungoverned_if b row) ≡ stance_in other measure row
freed_stance id other measure row false apart_is h = refl
freed_stance id other measure row true apart_is h = forced_either None row.issued _ _ (subject row.plan (regulation other measure)) refl (governed_once id other row apart_is h)

freed_flights : (id other : Text) (measure : Measure) (es : List (Text × Row)) → same_text id other ≡ false
    → filter_map_values (stance_in other measure) (map (λ (e : Text × Row). (e.0, ungoverned_if (is_governed_by id e.1) e.1)) es) ≡ filter_map_values (stance_in other measure) es
freed_flights id other measure [] apart_is = refl
freed_flights id other measure (e ∷ es) apart_is =
    λ i. cons_option (option_map (λ (y : Stance). (e.0, y)) (freed_stance id other measure e.1 (is_governed_by id e.1) apart_is refl i)) (freed_flights id other measure es apart_is i)

-- every other list stays as flights are freed
pub list-closed : (m : State) (id other : Text) → same_text id other ≡ false → list_of (state_without_regulation m id) other ≡ list_of m other
list-closed m id other apart_is =
    ap (option_map (listing (state_without_regulation m id).rows other)) (at-without_other other id m.regs (apart id other apart_is)) ∙ by (measure_of m other)
  where
    by : (w : Option Measure) → option_map (listing (state_without_regulation m id).rows other) w ≡ option_map (listing m.rows other) w
    by None = refl
    by (Some measure) = λ i. Some (record { profile = measure.profile; flights = freed_flights id other measure m.rows apart_is i })

pub row-closed : (m : State) (id key : Text) → row_of (state_without_regulation m id) key ≡ option_map (λ (row : Row). ungoverned_if (is_governed_by id row) row) (row_of m key)
row-closed m id key = at-map (λ _ row. ungoverned_if (is_governed_by id row) row) key m.rows

-- the flights that a regulation governs are those that its list governs: no other row need be looked at
pub governed_in_list : (id : Text) (measure : Measure) (rows : List (Text × Row))
    → flights_over (is_governed_by id) (regulation id measure) rows ≡ sorted_by is_before (filter_map (λ (e : Text × Stance). governed_comp e.0 e.1) (filter_map_values (stance_in id measure) rows))
governed_in_list id measure rows = ap (sorted_by is_before) (sym (each rows))
  where
    one : (key : Text) (g : Bool) (i w : Option ℕ) (rest : List (Text × Stance)) → filter_map (λ (e : Text × Stance). governed_comp e.0 e.1) (cons_option (option_map (λ (y : Stance). (key, y)) (option_map (stance g i) w)) rest)
        ≡ cons_option (if g then option_map (λ (eto : ℕ). let c : Comp = record { eto = eto; key = key } in c) w else None) (filter_map (λ (e : Text × Stance). governed_comp e.0 e.1) rest)
    one key true i None rest = refl
    one key false i None rest = refl
    one key true None (Some eto) rest = refl
    one key true (Some t) (Some eto) rest = refl
    one key false i (Some eto) rest = refl

    each : (es : List (Text × Row)) → filter_map (λ (e : Text × Stance). governed_comp e.0 e.1) (filter_map_values (stance_in id measure) es)
        ≡ filter_map (λ (e : Text × Row). if is_governed_by id e.1 then option_map (λ (eto : ℕ). let c : Comp = record { eto = eto; key = e.0 } in c) (subject e.1.plan (regulation id measure)) else None) es
    each [] = refl
    each (e ∷ es) = one e.0 (is_governed_by id e.1) e.1.issued (subject e.1.plan (regulation id measure)) (filter_map_values (stance_in id measure) es)
        ∙ ap (λ (cs : List Comp). cons_option (if is_governed_by id e.1 then option_map (λ (eto : ℕ). let c : Comp = record { eto = eto; key = e.0 } in c) (subject e.1.plan (regulation id measure)) else None) cs) (each es)
