-- what follows from the catalogue
use Rattle.std.proofs.Common.{◌≡◌, List, [], ◌∷◌, true, false, cond, refl, sym, ap, ◌∙◌, Option, None, Some, is_some, map}
use Rattle.std.specs.Option.{option_map, option_map_or}
use Rattle.std.specs.Ordering.{is_eq}
use Rattle.casa_filing.specs.declared.regulation.Regulation.{Regulation}
use Rattle.casa_filing.specs.declared.regulation.Measure.{Measure}
use Rattle.casa_flight.specs.declared.row.Row.{Row}
use Rattle.casa_flight.specs.declared.state.State.{State}
use Rattle.casa_filing.specs.Text.{Text, at_name}
use Rattle.casa_filing.specs.FlightPlan.{FlightPlan}
use Rattle.casa_filing.specs.Subject.{regulation, subject}
use Rattle.casa_flight.specs.State.{row_of, measure_of, catalogue}
use Rattle.casa_flight.specs.Listing.{listing, list_of}
use Rattle.casa_filing.proofs.Entries.{text_cmp, same_name}
use Rattle.casa_footprint.specs.Finding.{by_id}
use Rattle.casa_footprint.specs.Footprint.{is_subject, is_list_of}

-- what the catalogue has under an identifier is the regulation of the measure that is open there
pub at-catalogue : (regs : List (Text × Measure)) (id : Text) → at_name (by_id (map (λ (e : Text × Measure). regulation e.0 e.1) regs)) id ≡ option_map (regulation id) (at_name regs id)
at-catalogue [] id = refl
at-catalogue (e ∷ regs) id =
    let others : Option Regulation = at_name (by_id (map (λ (e : Text × Measure). regulation e.0 e.1) regs)) id in
    elim (is_eq (text_cmp id e.0)) as (λ b. is_eq (text_cmp id e.0) ≡ b → cond b (Some (regulation e.0 e.1)) others ≡ option_map (regulation id) (cond b (Some e.1) (at_name regs id))) [
      | true ↦ λ t. ap (λ (q : Text). Some (regulation q e.1)) (sym (same_name id e.0 t))
      | false ↦ λ t. at-catalogue regs id
    ] refl

-- the regulation under an identifier, as the catalogue has it
abbrev pub regulation_of : State → Text → Option Regulation
regulation_of m id = option_map (regulation id) (measure_of m id)

pub regulation_same : (m n : State) (id : Text) → catalogue m ≡ catalogue n → regulation_of m id ≡ regulation_of n id
regulation_same m n id c = sym (at-catalogue m.regs id) ∙ ap (λ rs. at_name (by_id rs) id) c ∙ at-catalogue n.regs id

subject_by : (plan : FlightPlan) (id : Text) (w : Option Measure) → option_map_or (λ (r : Regulation). is_some (subject plan r)) (option_map (regulation id) w) false ≡ option_map_or (λ (y : Measure). is_some (subject plan (regulation id y))) w false
subject_by plan id None = refl
subject_by plan id (Some y) = refl

pub is_subject_same : (m n : State) (plan : FlightPlan) (id : Text) → catalogue m ≡ catalogue n → is_subject m plan id ≡ is_subject n plan id
is_subject_same m n plan id c =
    sym (subject_by plan id (measure_of m id)) ∙ ap (λ (w : Option Regulation). option_map_or (λ (r : Regulation). is_some (subject plan r)) w false) (regulation_same m n id c) ∙ subject_by plan id (measure_of n id)

pub is_list_of_same : (m n : State) (key id : Text) → catalogue m ≡ catalogue n → row_of m key ≡ row_of n key → is_list_of m key id ≡ is_list_of n key id
is_list_of_same m n key id c found = by (row_of m key) ∙ ap (λ (w : Option Row). option_map_or (λ (r : Row). is_subject n r.plan id) w false) found
  where
    by : (w : Option Row) → option_map_or (λ (r : Row). is_subject m r.plan id) w false ≡ option_map_or (λ (r : Row). is_subject n r.plan id) w false
    by None = refl
    by (Some r) = is_subject_same m n r.plan id c

-- the catalogue says which lists there are
pub absent_same : (m n : State) (id : Text) → catalogue m ≡ catalogue n → list_of m id ≡ None → list_of n id ≡ None
absent_same m n id c h = by (measure_of m id) (measure_of n id) (regulation_same m n id c) h
  where
    by : (v w : Option Measure) → option_map (regulation id) v ≡ option_map (regulation id) w → option_map (listing m.rows id) v ≡ None → option_map (listing n.rows id) w ≡ None
    by v None e h = refl
    by None (Some z) e h = cc
    by (Some y) (Some z) e h = cc
