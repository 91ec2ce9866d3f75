-- the answer to a regulation that opens
use Rattle.std.proofs.Common.{◌≡◌, List, [], length, Bool, true, false, refl, sym, ap, ◌∙◌, Option, None, Some, unwrap_or, nat_le}
use Rattle.casa_grid.specs.declared.period.Period.{Period}
use Rattle.casa_flight.specs.declared.call.Call.TheVariants.{OpenReg}
use Rattle.casa_flight.specs.declared.call.Refusal.TheVariants.{DuplicateRegulation, TooManyRegulations}
use Rattle.casa_filing.specs.declared.regulation.Measure.{Measure}
use Rattle.casa_flight.specs.declared.state.State.{State}
use Rattle.casa_filing.specs.Text.{Text}
use Rattle.casa_filing.specs.Subject.{regulation}
use Rattle.casa_flight.specs.State.{measure_of}
use Rattle.casa_flight.specs.Listing.{Listing}
use Rattle.casa_flight.specs.Steps.{most_regulations, open_regulation}
use Rattle.casa_laws.proofs.RegMessages.{open_stays}
use Rattle.std.proofs.lemmas.List.{length-map}
use Rattle.casa_plan_spec.specs.Sight.{Sight, IsAnswerIn, IsPlanned, regulations_in, list_in}
use Rattle.casa_plan_spec.specs.Opening.{open_if, open_reg}
use Rattle.casa_plan_spec.proofs.Changes.{refusal}
use Rattle.casa_plan_spec.proofs.TakingIn.{TakesIn, takes_in}
use Rattle.casa_plan_spec.proofs.NewRates.{measure_none, measure_some}

opens : (m : State) (id loc : Text) (profile : List Period) → measure_of m id ≡ None → nat_le most_regulations (length m.regs) ≡ false
    → TakesIn m (OpenReg id loc profile) id (record { loc = loc; profile = profile })
opens m id loc profile absent room = record {
  stepped = ap (λ (w : Option Measure). open_regulation m id measure w (nat_le most_regulations (length m.regs))) absent ∙ ap (open_regulation m id measure None) room;
  answered = λ n. refl;
  lasts = open_stays m id measure absent;
  all_read = λ i. refl;
  clock = refl;
  catalogue = refl;
  rows = λ key. refl;
  lists = λ other. refl;
}
  where
    measure : Measure
    measure = record { loc = loc; profile = profile }

pub open_planned : (v : Sight) (id loc : Text) (profile : List Period) → IsPlanned v (OpenReg id loc profile) (open_reg v id loc profile)
open_planned v id loc profile m good is = by (list_in v id) (nat_le most_regulations (length (regulations_in v))) refl refl
  where
    measure : Measure
    measure = record { loc = loc; profile = profile }

    count : length (regulations_in v) ≡ length m.regs
    count = ap (λ w. length (unwrap_or w [])) (is.catalogue refl) ∙ length-map m.regs (λ (e : Text × Measure). regulation e.0 e.1)

    by : (l : Option Listing) (full : Bool) → list_in v id ≡ l → nat_le most_regulations (length (regulations_in v)) ≡ full
        → IsAnswerIn m (OpenReg id loc profile) (open_if v (regulation id measure) profile l full)
    by (Some l) full e f =
        let o = measure_some m id l (sym (is.list id refl) ∙ e) in
        refusal m (OpenReg id loc profile) DuplicateRegulation (ap (λ (w : Option Measure). open_regulation m id measure w (nat_le most_regulations (length m.regs))) o.1)
    by None true e f =
        let absent : measure_of m id ≡ None = measure_none m id (sym (is.list id refl) ∙ e) in
        refusal m (OpenReg id loc profile) TooManyRegulations
        (ap (λ (w : Option Measure). open_regulation m id measure w (nat_le most_regulations (length m.regs))) absent
        ∙ ap (open_regulation m id measure None) (sym (ap (nat_le most_regulations) count) ∙ f))
    by None false e f =
        takes_in m (OpenReg id loc profile) id measure v good is
        (opens m id loc profile (measure_none m id (sym (is.list id refl) ∙ e)) (sym (ap (nat_le most_regulations) count) ∙ f))
