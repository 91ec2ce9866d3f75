-- the messages of each call, from a good state
use Rattle.std.proofs.Common.{◌≡◌, ℕ, ◌<◌, ◌≤◌, List, map, Bool, true, false, not, ◌&&◌, ◌||◌, refl, sym, ap, subst, ◌∙◌, Option, None, Some, MatchOption, is_some, nat_lt}
use Rattle.std.specs.Ordering.{is_eq}
use Rattle.std.specs.Option.{option_map_or}
use Rattle.std.specs.List.{All, Contains}
use Rattle.std.specs.List.Sorted.{IsStrictlySortedBy}
use Rattle.std.proofs.lemmas.Bool.{both_ways, ltb-true}
use Rattle.std.proofs.lemmas.List.Elements.{All-nil}
use Rattle.casa_grid.specs.Profile.{end_of}
use Rattle.casa_flight.specs.declared.call.Call.{Call}
use Rattle.casa_flight.specs.declared.call.Call.TheVariants.{File, Amend, Cancel, Revise, Exempt}
use Rattle.casa_flight.specs.declared.call.Refusal.{Refusal}
use Rattle.casa_filing.specs.declared.regulation.Measure.{Measure}
use Rattle.casa_flight.specs.declared.reply.Message.{Message}
use Rattle.casa_flight.specs.declared.reply.Message.TheVariants.{Sam, Srm, Slc}
use Rattle.casa_flight.specs.declared.row.Row.{Row}
use Rattle.casa_flight.specs.declared.state.State.{State}
use Rattle.casa_filing.specs.Text.{Text, at_name, without}
use Rattle.casa_filing.specs.FlightPlan.{FlightPlan}
use Rattle.casa_filing.specs.Subject.{regulation, subject, is_due, is_gone}
use Rattle.casa_flight.specs.State.{row_of, with_row, ungoverned}
use Rattle.casa_flight.specs.Listing.{ctot_of}
use Rattle.casa_flight.specs.Entry.{Offer, situation, choice, row_after_entry}
use Rattle.casa_flight.specs.Steps.{Step, refused, leads, new_row, is_revised, step, after, next}
use Rattle.casa_flight.specs.Replies.{messages, is_issued, ctot_before, reply, reply_of}
use Rattle.casa_flight.specs.Good.{AreInOrder, IsOutside, IsGood, IsGoverned}
use Rattle.casa_flight.specs.Messages.{messages_in, flight_of, CanCome, TellsChange}
use Rattle.casa_filing.proofs.Entries.{text_cmp, same_name, all_at, at-without_other}
use Rattle.casa_laws.proofs.Kept.{at-without_same}
use Rattle.casa_laws.proofs.Choice.{choice-offer, choice-none}
use Rattle.casa_laws.proofs.Outcomes.{exempted, file_cases, amend_cases, cancel_cases, revise_cases, exempt_cases}
use Rattle.casa_laws.proofs.Good.{without-good}
use Rattle.casa_laws.proofs.GoodRegs.{next-good}
use Rattle.casa_laws.proofs.ChangeMessages.{message_cases, message_tells, each_message, tells_comes, messages_sorted, governed_by, free_of, StaysOpen, stays, messages_unchanged, all_one}
use Rattle.casa_laws.proofs.EnterAll.{IsIssuedNow, issued_now, issues}

-- what holds of the messages of a call, whatever the call
nothing_tells : (m : State) (x : Message) → TellsChange m m x → ⊥
nothing_tells m (Sam key ctot reg) t = both_ways (is_issued (row_of m key)) t.0 (ap is_issued t.1.is_filed ∙ t.1.issued)
nothing_tells m (Srm key ctot reg) t = t.1 (sym (ap (λ (w : Option Row). option_map_or (ctot_of m key) w 0) t.2.is_filed ∙ t.2.leaves))
nothing_tells m (Slc key) t = both_ways (is_issued (row_of m key)) t.2 t.0

step_tells : (m : State) (call : Call) (s : Step) → AreInOrder (after m s).rows → All (TellsChange m (after m s)) (messages_in (reply_of m call s))
step_tells m call (refused r) sorted = All-nil (TellsChange m m)
step_tells m call (leads n) sorted = each_message (TellsChange m n) m n sorted (λ key row x. message_tells m n key row x)

step_comes : (m : State) (call : Call) (s : Step) (x : Message) → TellsChange m (after m s) x → Contains (messages_in (reply_of m call s)) x
step_comes m call (refused r) x t = absurd (nothing_tells m x t)
step_comes m call (leads n) x t = tells_comes m n x t

step_sorted : (m : State) (call : Call) (s : Step) → AreInOrder (after m s).rows → IsStrictlySortedBy text_cmp (map flight_of (messages_in (reply_of m call s)))
unfolding IsStrictlySortedBy
step_sorted m call (refused r) sorted = tt
step_sorted m call (leads n) sorted = messages_sorted m n sorted

pub call_tells : (m : State) (call : Call) → IsGood m → All (TellsChange m (next m call)) (messages_in (reply m call))
call_tells m call good = step_tells m call (step m call) (next-good m call good).rows_in_order

pub call_comes : (m : State) (call : Call) (x : Message) → IsGood m → TellsChange m (next m call) x → Contains (messages_in (reply m call)) x
call_comes m call x good t = step_comes m call (step m call) x t

pub call_sorted : (m : State) (call : Call) → IsGood m → IsStrictlySortedBy text_cmp (map flight_of (messages_in (reply m call)))
call_sorted m call good = step_sorted m call (step m call) (next-good m call good).rows_in_order

-- which messages can come of a call, by its outcome
abbrev pub Comes : State → Call → Step → Type 0
Comes m call s = All (CanCome m call) (messages_in (reply_of m call s))

-- nothing comes of a refused call
pub refused_comes : (m : State) (call : Call) (r : Refusal) → Comes m call (refused r)
refused_comes m call r = All-nil (CanCome m call)

-- of a call that writes one row, the message for its flight
one_message : (Q : Message → Type 0) (m : State) (key : Text) (row : Row) → IsGood m → let n : State = with_row m key row in
    ((reg : Text) → row.governing ≡ Some reg → is_issued (row_of m key) ≡ false → is_some row.issued ≡ true → Q (Sam key (ctot_of n key row) reg))
    → ((reg : Text) → row.governing ≡ Some reg → is_issued (row_of m key) ≡ true → is_some row.issued ≡ true → (ctot_of n key row ≡ ctot_before m key → ⊥) → Q (Srm key (ctot_of n key row) reg))
    → (is_issued (row_of m key) ≡ true → is_some row.issued ≡ false → Q (Slc key))
    → All Q (messages m n)
one_message Q m key row good a b c =
    all_one Q m key row good (message_cases Q key row.governing (is_issued (row_of m key)) (is_some row.issued) (ctot_before m key) (ctot_of (with_row m key row) key row) a b c)

-- of a call that leaves each row that is there, nothing
pub no_message : (Q : Message → Type 0) (m n : State) → IsGood m → AreInOrder n.rows → ((id : Text) → StaysOpen m n id) → ((key : Text) (row : Row) → row_of n key ≡ Some row → row_of m key ≡ Some row) → All Q (messages m n)
no_message Q m n good sorted lasts before = subst (All Q) (sym (messages_unchanged m n good sorted lasts before)) (All-nil Q)

pub unchanged : (Q : Message → Type 0) (m : State) → IsGood m → All Q (messages m m)
unchanged Q m good = no_message Q m m good good.rows_in_order (λ id. stays m m id (λ a opened. opened)) (λ key row found. found)

pub file_comes : (m : State) (plan : FlightPlan) → IsGood m → Comes m (File plan) (step m (File plan))
file_comes m plan good =
    file_cases m (Comes m (File plan)) (refused_comes m (File plan)) plan
    (λ absent. one_message (CanCome m (File plan)) m plan.key (row_after_entry (situation m) plan.key (new_row plan)) good
    (λ _ _ _ _. refl)
    (λ _ _ was _ _. both_ways _ (ap is_issued absent) was)
    (λ was _. both_ways _ (ap is_issued absent) was))

pub amend_comes : (m : State) (plan : FlightPlan) → IsGood m → Comes m (Amend plan) (step m (Amend plan))
amend_comes m plan good =
    amend_cases m (Comes m (Amend plan)) (refused_comes m (Amend plan)) plan
    (λ row found. one_message (CanCome m (Amend plan)) m plan.key (row_after_entry (situation m) plan.key (record (ungoverned row) { plan = plan })) good
    (λ _ _ _ _. refl) (λ _ _ _ _ _. refl) (λ _ _. refl))

-- what is left after a flight was removed was there before
left_row : (m : State) (key other : Text) (row : Row) → IsGood m → at_name (without m.rows key) other ≡ Some row → row_of m other ≡ Some row
left_row m key other row good found =
    elim (is_eq (text_cmp other key)) as (λ b. is_eq (text_cmp other key) ≡ b → row_of m other ≡ Some row) [
      | true ↦ λ t.
          let gone : None ≡ Some row = sym (at-without_same key m.rows good.rows_in_order) ∙ subst (λ q. at_name (without m.rows key) q ≡ Some row) (same_name other key t) found in
          cc
      | false ↦ λ t. sym (at-without_other other key m.rows t) ∙ found
    ] refl

pub cancel_comes : (m : State) (key : Text) → IsGood m → Comes m (Cancel key) (step m (Cancel key))
cancel_comes m key good =
    let n : State = record m { rows = without m.rows key } in
    cancel_cases m (Comes m (Cancel key)) (refused_comes m (Cancel key)) key
    (λ row found. no_message (CanCome m (Cancel key)) m n good (without-good m key good).rows_in_order
    (λ id. stays m n id (λ a opened. opened)) (λ other r there. left_row m key other r good there))

pub exempt_comes : (m : State) (key : Text) → IsGood m → Comes m (Exempt key) (step m (Exempt key))
exempt_comes m key good =
    exempt_cases m (Comes m (Exempt key)) (refused_comes m (Exempt key)) key
    (λ row found not. one_message (CanCome m (Exempt key)) m key (exempted row) good
    (λ _ _ _ now. cc) (λ _ _ _ now _. cc) (λ _ _. refl))

-- a plan that is subject to an open regulation is not outside
pub not_outside : (regs : List (Text × Measure)) (plan : FlightPlan) (id : Text) (measure : Measure) (eto : ℕ) → IsOutside regs plan → at_name regs id ≡ Some measure → subject plan (regulation id measure) ≡ Some eto → ⊥
not_outside regs plan id measure eto out opened over =
    let none : None ≡ Some eto = sym (all_at (λ (e : Text × Measure). subject plan (regulation e.0 e.1) ≡ None) id measure regs out opened) ∙ over in cc

-- a governed flight is issued exactly if it is due
pub issued_if_due : (clock : ℕ) (regs : List (Text × Measure)) (row : Row) (id : Text) → IsGoverned clock regs row id → is_some row.issued ≡ is_due clock row.plan
issued_if_due clock regs row id g = by row.issued g.issued
  where
    by : (w : Option ℕ) → MatchOption w (is_due clock row.plan ≡ false) (λ t. (is_due clock row.plan ≡ true) × (g.eto ≤ t) × (t ≤ end_of g.measure.profile)) → is_some w ≡ is_due clock row.plan
    by None h = sym h
    by (Some t) h = sym h.0

pub not_due : (clock : ℕ) (regs : List (Text × Measure)) (row : Row) (id : Text) → IsGoverned clock regs row id → is_some row.issued ≡ false → is_due clock row.plan ≡ false
not_due clock regs row id g h = sym (issued_if_due clock regs row id g) ∙ h

pub was_due : (clock : ℕ) (regs : List (Text × Measure)) (row : Row) (id : Text) → IsGoverned clock regs row id → is_some row.issued ≡ true → is_due clock row.plan ≡ true
was_due clock regs row id g h = sym (issued_if_due clock regs row id g) ∙ h

-- a flight that waits for its slot still waits when it enters anew
still_waits : (m : State) (key : Text) (row : Row) → IsGood m → row_of m key ≡ Some row → is_some row.issued ≡ false → is_some (row_after_entry (situation m) key (ungoverned row)).issued ≡ true → ⊥
still_waits m key row good found waits issued = by row.governing refl
  where
    now : IsIssuedNow (situation m) key (ungoverned row)
    now = issued_now (situation m) key (ungoverned row) refl issued

    by : (w : Option Text) → row.governing ≡ w → ⊥
    by None e =
        let offered = choice-offer m key row.plan now.offer good.regs_in_order now.chosen in
        not_outside m.regs row.plan now.offer.id offered.measure offered.eto ((free_of m key row good found e).left now.plain now.here) offered.is_open offered.is_subject
    by (Some id) e = both_ways _ (not_due m.clock m.regs row id (governed_by m key row id good found e) waits) now.due

-- an issued flight that is not gone is issued again when it enters anew
issued_again : (m : State) (key : Text) (row : Row) → IsGood m → row_of m key ≡ Some row → is_some row.issued ≡ true → is_gone m.clock row.plan ≡ false → is_some (row_after_entry (situation m) key (ungoverned row)).issued ≡ true
issued_again m key row good found issued here = by row.governing refl
  where
    by : (w : Option Text) → row.governing ≡ w → is_some (row_after_entry (situation m) key (ungoverned row)).issued ≡ true
    by None e = absurd (both_ways _ (ap is_some (free_of m key row good found e).not_issued) issued)
    by (Some id) e =
        let g = governed_by m key row id good found e in
        elim (choice (situation m) key row.plan) as (λ (o : Option Offer). choice (situation m) key row.plan ≡ o → is_some (row_after_entry (situation m) key (ungoverned row)).issued ≡ true) [
          | None ↦ λ c. absurd (not_outside m.regs row.plan id g.measure g.eto (choice-none m key row.plan good.regs_in_order c) g.is_open g.is_subject)
          | Some o ↦ λ c. issues (situation m) key (ungoverned row) o g.not_exempt here (was_due m.clock m.regs row id g issued) c
        ] refl

revised_parts : (i g l : Bool) → (not i || (not g && l)) ≡ true → i ≡ true → (g ≡ false) × (l ≡ true)
revised_parts true false true h is = (refl, refl)
revised_parts true false false h is = cc
revised_parts true true l h is = cc
revised_parts false g l h is = cc

pub revise_comes : (m : State) (key : Text) → IsGood m → Comes m (Revise key) (step m (Revise key))
revise_comes m key good =
    revise_cases m (Comes m (Revise key)) (refused_comes m (Revise key)) key (λ row found not. unchanged (CanCome m (Revise key)) m good) enters
  where
    enters : (row : Row) → row_of m key ≡ Some row → let new : Row = row_after_entry (situation m) key (ungoverned row) in
        is_revised m key row new ≡ true → Comes m (Revise key) (leads (with_row m key new))
    enters row found is =
        let new : Row = row_after_entry (situation m) key (ungoverned row) in
        let parts : is_some row.issued ≡ true → (is_gone m.clock row.plan ≡ false) × (nat_lt (ctot_of (with_row m key new) key new) (ctot_of m key row) ≡ true) =
        revised_parts (is_some row.issued) (is_gone m.clock row.plan) (nat_lt (ctot_of (with_row m key new) key new) (ctot_of m key row)) is in
        let as_row : is_issued (row_of m key) ≡ is_some row.issued = ap is_issued found in
        let before : ctot_of m key row ≡ ctot_before m key = sym (ap (λ (w : Option Row). option_map_or (ctot_of m key) w 0) found) in
        one_message (CanCome m (Revise key)) m key new good
        (λ _ _ was now. still_waits m key row good found (sym as_row ∙ was) now)
        (λ _ _ was _ _. (refl, subst (λ t. ctot_of (with_row m key new) key new < t) before (ltb-true _ _ (parts (sym as_row ∙ was)).1)))
        (λ was now. both_ways _ now (issued_again m key row good found (sym as_row ∙ was) (parts (sym as_row ∙ was)).0))
