-- a governed flight whose issue is written
use Rattle.std.proofs.Common.{◌≡◌, ℕ, [], ◌∷◌, Bool, true, false, cond, refl, sym, ap, subst, ◌∙◌, ◌||◌, Option, None, Some, is_some}
use Rattle.std.specs.Option.{option_map, option_map_or, option_and_then}
use Rattle.std.specs.Ordering.{is_eq}
use Rattle.std.proofs.lemmas.Cmp.{nat_list_eq_equiv}
use Rattle.casa_filing.specs.declared.regulation.Measure.{Measure}
use Rattle.casa_flight.specs.declared.row.Row.{Row}
use Rattle.casa_flight.specs.declared.row.Stance.{Stance}
use Rattle.casa_flight.specs.declared.state.State.{State}
use Rattle.casa_filing.specs.Text.{Text, same_text, at_name}
use Rattle.casa_filing.specs.Subject.{regulation, subject}
use Rattle.casa_flight.specs.State.{row_of, measure_of, with_row, is_governed_by}
use Rattle.casa_flight.specs.Listing.{Listing, listing, list_of, stance, stance_in, stance_of, eto_as}
use Rattle.casa_flight.specs.Good.{AreInOrder, IsGood, IsGoverned}
use Rattle.casa_filing.proofs.Entries.{text_cmp}
use Rattle.casa_laws.proofs.Kept.{at-kept}
use Rattle.casa_laws.proofs.ChangeMessages.{governed_by}
use Rattle.casa_plan_spec.specs.Sight.{Sight, Written, list_in}
use Rattle.casa_plan_spec.specs.Write.{Stances, with_stances, write_flight}
use Rattle.casa_plan_spec.specs.Issue.{governed_stance, governed_stances, with_issued_row}
use Rattle.casa_plan_spec.proofs.Changes.{test_same}
use Rattle.casa_plan_spec.proofs.Board.{Shows}
use Rattle.casa_plan_spec.proofs.Naming.{text_turn, or_none}
use Rattle.casa_plan_spec.proofs.Stances.{lists_named}
use Rattle.casa_plan_spec.proofs.Written.{flight_shown, governing_covered}

-- a governed flight, in its list
pub record IsHeld (m : State) (key : Text) : Type 0 where
  pub row : Row
  pub found : row_of m key ≡ Some row
  pub id : Text
  pub governs : row.governing ≡ Some id
  pub measure : Measure
  pub opened : measure_of m id ≡ Some measure
  pub eto : ℕ
  pub over : subject row.plan (regulation id measure) ≡ Some eto

-- each governed flight of a good state is one, whatever the clock
abbrev pub held_by : (m : State) (at : ℕ) (key id : Text) (row : Row) → IsGood m → row_of m key ≡ Some row → row.governing ≡ Some id → IsHeld (record m { clock = at }) key
held_by m at key id row good found governs =
    let g : IsGoverned m.clock m.regs row id = governed_by m key row id good found governs in
    record { row = row; found = found; id = id; governs = governs; measure = g.measure; opened = g.is_open; eto = g.eto; over = g.is_subject }

-- how the flight stands in its list with this issue
stance_issued : (m : State) (key : Text) (h : IsHeld m key) (issued : Option ℕ) → Option Stance
stance_issued m key h issued = Some (stance true issued h.eto)

stands_issued : (m : State) (key : Text) (h : IsHeld m key) (issued : Option ℕ) (measure : Measure) → measure_of m h.id ≡ Some measure → stance_in h.id measure (record h.row { issued = issued }) ≡ stance_issued m key h issued
unfolding stance_issued
stands_issued m key h issued measure opened =
    let both : Some measure ≡ Some h.measure = sym opened ∙ h.opened in
    let same : measure ≡ h.measure = cc in
    let itself : is_governed_by h.id h.row ≡ true = ap (λ (o : Option Text). option_map_or (same_text h.id) o false) h.governs ∙ nat_list_eq_equiv.refl h.id in
    ap (λ (y : Measure). stance_in h.id y (record h.row { issued = issued })) same
    ∙ ap (option_map (stance (is_governed_by h.id h.row) issued)) h.over
    ∙ ap (λ b. Some (stance b issued h.eto)) itself

eto_stays : (b : Bool) (i : Option ℕ) (eto : ℕ) → eto_as (stance b i eto) ≡ eto
eto_stays true None eto = refl
eto_stays true (Some t) eto = refl
eto_stays false i eto = refl

-- what is written of it with another issue, in a view that shows its list
issue_written : (v : Sight) (w : Written) (m : State) (key : Text) (h : IsHeld m key) (issued : Option ℕ) → list_in v h.id ≡ list_of m h.id → AreInOrder m.rows
    → with_issued_row v w key (record h.row { issued = issued }) ≡ write_flight v w key (Some (record h.row { issued = issued })) ((h.id, stance_issued m key h issued) ∷ [])
unfolding stance_issued
issue_written v w m key h issued listed sorted =
    let new : Row = record h.row { issued = issued } in
    let is : list_in v h.id ≡ Some (listing m.rows h.id h.measure) = listed ∙ ap (option_map (listing m.rows h.id)) h.opened in
    let stands : stance_of (listing m.rows h.id h.measure) key ≡ Some (stance (is_governed_by h.id h.row) h.row.issued h.eto) =
    at-kept (stance_in h.id h.measure) key m.rows sorted ∙ ap (option_and_then (stance_in h.id h.measure)) h.found ∙ ap (option_map (stance (is_governed_by h.id h.row) h.row.issued)) h.over in
    let there : governed_stances v key new ≡ (h.id, stance_issued m key h issued) ∷ [] =
    ap (λ (o : Option Text). let es : Stances = option_map_or (λ (id : Text). (id, option_and_then (governed_stance key new) (list_in v id)) ∷ []) o [] in es) h.governs
    ∙ ap (λ (o : Option Listing). let es : Stances = (h.id, option_and_then (governed_stance key new) o) ∷ [] in es) is
    ∙ ap (λ (o : Option Stance). let es : Stances = (h.id, option_map (λ (s : Stance). stance true issued (eto_as s)) o) ∷ [] in es) stands
    ∙ ap (λ eto. let es : Stances = (h.id, Some (stance true issued eto)) ∷ [] in es) (eto_stays (is_governed_by h.id h.row) h.row.issued h.eto) in
    ap (write_flight v w key (Some new)) there

-- with it, what the view shows is the state with the flight issued so, where it was there with any issue
pub issue_shown : (v : Sight) (w : Written) (m s : State) (key : Text) (h : IsHeld m key) (was issued : Option ℕ) → list_in v h.id ≡ list_of m h.id → AreInOrder m.rows
    → Shows v w s → AreInOrder s.rows → s.regs ≡ m.regs → row_of s key ≡ Some (record h.row { issued = was })
    → Shows v (with_issued_row v w key (record h.row { issued = issued })) (with_row s key (record h.row { issued = issued }))
issue_shown v w m s key h was issued listed ordered shows sorted same found =
    let new : Row = record h.row { issued = issued } in
    let st : Option Stance = stance_issued m key h issued in
    subst (λ (x : Written). Shows v x (with_row s key new)) (sym (issue_written v w m key h issued listed ordered))
    (flight_shown v w s key (Some new) ((h.id, st) ∷ []) shows sorted (refl, tt)
    (governing_covered s key (record h.row { issued = was }) new h.id st found refl h.governs h.governs
    (λ measure opened. stands_issued m key h issued measure (ap (λ es. at_name es h.id) (sym same) ∙ opened))))

-- and the list that it has is the one that governs the flight
pub issue_named : (v : Sight) (w : Written) (key : Text) (new : Row) (q : Text) → is_some (at_name (with_issued_row v w key new).lists q) ≡ (is_some (at_name w.lists q) || is_governed_by q new)
issue_named v w key new q = by new.governing
  where
    stances_by : Option Text → Stances
    stances_by g = option_map_or (λ (id : Text). (id, option_and_then (governed_stance key new) (list_in v id)) ∷ []) g []

    one : (st : Option Stance) (b : Bool) → is_some (cond b (Some st) None) ≡ b
    one st true = refl
    one st false = refl

    by : (g : Option Text) → is_some (at_name (with_stances v key w.lists (stances_by g)) q) ≡ (is_some (at_name w.lists q) || option_map_or (same_text q) g false)
    by None = or_none _
    by (Some id) =
        lists_named v key w.lists (stances_by (Some id)) q (refl, tt)
        ∙ ap (λ b. is_some (at_name w.lists q) || b) (one (option_and_then (governed_stance key new) (list_in v id)) (is_eq (text_cmp q id)) ∙ test_same id q ∙ text_turn id q)
