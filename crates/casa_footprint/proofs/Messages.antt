-- the messages of a call that changes no row that is there, and what governs a flight
use Rattle.std.proofs.Common.{◌≡◌, true, sym, ap, ◌∙◌, [], Option, None, Some, IfSome, is_some, unwrap_or, refl}
use Rattle.std.specs.Option.{option_map}
use Rattle.casa_filing.specs.declared.regulation.Regulation.{Regulation}
use Rattle.casa_filing.specs.declared.regulation.Measure.{Measure}
use Rattle.casa_flight.specs.declared.row.Row.{Row}
use Rattle.casa_flight.specs.declared.state.State.{State}
use Rattle.casa_filing.specs.Text.{Text}
use Rattle.casa_filing.specs.Subject.{regulation}
use Rattle.casa_flight.specs.State.{row_of, measure_of, catalogue}
use Rattle.casa_flight.specs.Replies.{messages}
use Rattle.casa_flight.specs.Good.{AreInOrder, IsGood, IsGoverned}
use Rattle.casa_laws.proofs.ChangeMessages.{governed_by, StaysOpen, same_times, messages_unchanged}
use Rattle.casa_footprint.specs.Footprint.{is_subject}
use Rattle.casa_footprint.proofs.Catalogue.{regulation_same}
use Rattle.casa_footprint.proofs.Entering.{IsOwn, subject_at}

pub own_row : (m : State) (key : Text) (row : Row) → IsGood m → row_of m key ≡ Some row → IsOwn m row
own_row m key row good found = by row.governing refl
  where
    by : (w : Option Text) → row.governing ≡ w → IfSome w (λ id. is_subject m row.plan id ≡ true)
    by None e = tt
    by (Some id) e =
        let g : IsGoverned m.clock m.regs row id = governed_by m key row id good found e in
        subject_at m row.plan id g.measure g.is_open ∙ ap is_some g.is_subject

-- the measure of the same regulation elsewhere
other_measure : (id : Text) (y : Measure) (w : Option Measure) → Some (regulation id y) ≡ option_map (regulation id) w → (z : Measure) × (w ≡ Some z) × (regulation id y ≡ regulation id z)
other_measure id y None e = cc
other_measure id y (Some z) e = (z, refl, ap (λ (w : Option Regulation). unwrap_or w (regulation id y)) e)

pub stays_open : (m n : State) (id : Text) → catalogue m ≡ catalogue n → StaysOpen m n id
stays_open m n id c a opened =
    let o = other_measure id a (measure_of n id) (sym (ap (option_map (regulation id)) opened) ∙ regulation_same m n id c) in
    (o.0, o.1, same_times (regulation id a) (regulation id o.0) o.2)

-- where each row that is there afterwards was there before, no message comes
pub messages_none : (m n : State) → IsGood m → AreInOrder n.rows → catalogue m ≡ catalogue n → ((key : Text) (row : Row) → row_of n key ≡ Some row → row_of m key ≡ Some row) → messages m n ≡ []
messages_none m n good sorted c before = messages_unchanged m n good sorted (λ id. stays_open m n id c) before

pub messages_self : (m : State) → IsGood m → messages m m ≡ []
messages_self m good = messages_none m m good good.rows_in_order refl (λ key row found. found)
