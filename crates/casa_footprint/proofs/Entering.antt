-- a flight that enters keeps its plan, and is subject to what governs it
use Rattle.std.proofs.Common.{◌≡◌, true, false, cond, refl, sym, ap, subst, ◌∙◌, Option, None, Some, IfSome, ◌||◌, is_some}
use Rattle.std.specs.Option.{option_map_or}
use Rattle.casa_filing.specs.declared.regulation.Measure.{Measure}
use Rattle.casa_flight.specs.declared.row.Row.{Row}
use Rattle.casa_flight.specs.declared.state.State.{State}
use Rattle.casa_filing.specs.Text.{Text}
use Rattle.casa_filing.specs.FlightPlan.{FlightPlan}
use Rattle.casa_filing.specs.Subject.{regulation, subject, is_gone}
use Rattle.casa_flight.specs.State.{measure_of, is_exempt}
use Rattle.casa_flight.specs.Entry.{Offer, situation, choice, governed, row_after_entry}
use Rattle.casa_flight.specs.Good.{AreInOrder}
use Rattle.casa_laws.proofs.Choice.{IsOfferOf, choice-offer}
use Rattle.casa_footprint.specs.Footprint.{is_subject}

pub subject_at : (m : State) (plan : FlightPlan) (id : Text) (measure : Measure) → measure_of m id ≡ Some measure → is_subject m plan id ≡ is_some (subject plan (regulation id measure))
subject_at m plan id measure opened = ap (λ (w : Option Measure). option_map_or (λ (y : Measure). is_some (subject plan (regulation id y))) w false) opened

-- an entered flight keeps its plan, and it is subject to what governs it
abbrev pub IsOwn : State → Row → Type 0
IsOwn m row = IfSome row.governing (λ id. is_subject m row.plan id ≡ true)

abbrev pub IsEntered : State → Row → Row → Type 0
IsEntered m row new = IsOwn m new × (new.plan ≡ row.plan)

free_own : (m : State) (row : Row) → row.governing ≡ None → IsEntered m row row
free_own m row free = (subst (λ (w : Option Text). IfSome w (λ id. is_subject m row.plan id ≡ true)) (sym free) tt, refl)

chosen_own : (m : State) (key : Text) (row : Row) → AreInOrder m.regs → row.governing ≡ None → (o : Option Offer) → choice (situation m) key row.plan ≡ o → IsEntered m row (option_map_or (governed m.clock row) o row)
chosen_own m key row sorted free None h = free_own m row free
chosen_own m key row sorted free (Some o) h =
    let of : IsOfferOf m.regs row.plan o = choice-offer m key row.plan o sorted h in
    (subject_at m row.plan o.id of.measure of.is_open ∙ ap is_some of.is_subject, refl)

pub entered_own : (m : State) (key : Text) (row : Row) → AreInOrder m.regs → row.governing ≡ None → IsEntered m row (row_after_entry (situation m) key row)
entered_own m key row sorted free =
    let o : Option Offer = choice (situation m) key row.plan in
    elim (is_exempt row || is_gone m.clock row.plan) as (λ b. IsEntered m row (cond b row (option_map_or (governed m.clock row) o row))) [
      | true ↦ free_own m row free
      | false ↦ chosen_own m key row sorted free o refl
    ]
