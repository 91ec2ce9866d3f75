-- the answer to a call on one flight, once its new row and its delay are known
use Rattle.std.proofs.Common.{◌≡◌, ℕ, ◌+◌, [], IfSome, Bool, true, false, cond, refl, sym, ap, subst, ◌∙◌, Option, None, Some, ◌&&◌, ◌||◌, if◌then◌else◌}
use Rattle.std.specs.Option.{option_map_or, option_and_then}
use Rattle.std.proofs.lemmas.Bool.{or_left}
use Rattle.casa_flight.specs.declared.call.Call.{Call}
use Rattle.casa_flight.specs.declared.call.Refusal.{Refusal}
use Rattle.casa_flight.specs.declared.reply.Answer.{Answer}
use Rattle.casa_flight.specs.declared.reply.Answer.TheVariants.{Done, Flight}
use Rattle.casa_flight.specs.declared.reply.Reply.TheVariants.{Answered}
use Rattle.casa_flight.specs.declared.row.Row.{Row}
use Rattle.casa_flight.specs.declared.state.State.{State}
use Rattle.casa_filing.specs.Text.{Text}
use Rattle.casa_flight.specs.State.{row_of, with_row, catalogue}
use Rattle.casa_flight.specs.Listing.{Listing, list_of, delay_in, delay_of, ctot_of, governing_list}
use Rattle.casa_filing.specs.FlightPlan.{FlightPlan, etot}
use Rattle.casa_flight.specs.Entry.{Offer, situation, row_after_entry}
use Rattle.casa_flight.specs.Steps.{Step, refused, leads, step, after}
use Rattle.casa_flight.specs.Replies.{reply_of, answer, flight_answer, flight_reply, flight_with, is_issued, ctot_before, messages}
use Rattle.casa_flight.specs.Good.{IsGood}
use Rattle.casa_filing.proofs.Entries.{at-put_same}
use Rattle.casa_laws.proofs.ChangeMessages.{messages_one}
use Rattle.casa_footprint.specs.Items.{ItemName, contents}
use Rattle.casa_footprint.specs.Footprint.{is_subject, governs, would_write, is_accepted}
use Rattle.casa_footprint.proofs.Messages.{own_row, messages_self}
use Rattle.casa_footprint.proofs.OneFlight.{is_over_in, has_written}
use Rattle.casa_footprint.proofs.ShowList.{governs_own}
use Rattle.casa_footprint.specs.Change.{IsChange}
use Rattle.casa_plan_spec.specs.Sight.{Sight, Written, says, nothing_written, IsAnswerIn, regulations_in, situation_in, list_in}
use Rattle.casa_plan_spec.specs.OneFlight.{entry_offer, with_offer, offered_delay, reply_with_message, flight_written, ctot_shown_if, reply_to_change}
use Rattle.casa_plan_spec.specs.FlightCalls.{refusal, leave_unchanged, rewrite_flight}
use Rattle.casa_plan_spec.proofs.FlightOffers.{offer_found, Finds, entry_same, entered_is, entered_delay}
use Rattle.casa_plan_spec.proofs.Changes.{says-nothing}
use Rattle.casa_plan_spec.proofs.FlightLists.{Rewrites, change_is}

-- the reply to a call that writes the row of one flight
told_one : (m : State) (key : Text) (row : Row) (delay : ℕ) → IsGood m → delay_of (with_row m key row) key row ≡ delay
    → Answered (flight_answer (with_row m key row) key) (messages m (with_row m key row)) ≡ reply_with_message key row delay (is_issued (row_of m key)) (ctot_before m key)
told_one m key row delay good is =
    let n : State = with_row m key row in
    (λ i. Answered (option_map_or (λ (r : Row). Flight (flight_reply n key r)) (at-put_same key row m.rows i) Done) (messages_one m key row good i))
    ∙ ap (λ d. reply_with_message key row d (is_issued (row_of m key)) (ctot_before m key)) is

-- a refused call is answered by its refusal
pub refused_answer : (m : State) (call : Call) (r : Refusal) → step m call ≡ refused r → IsAnswerIn m call (refusal r)
refused_answer m call r is = (
  ap (reply_of m call) (sym is),
  λ i. says-nothing (list_of m) i ∙ sym (ap (λ (s : Step). cond (is_accepted s && would_write m call i) (Some (contents (after m s) i)) None) is),
)

-- a call that leads to a state which differs in these items
pub led_change : (m n : State) (call : Call) (d : Written) (has : ItemName → Bool) → step m call ≡ leads n → ((i : ItemName) → would_write m call i ≡ has i)
    → ((i : ItemName) → says (list_of m) d i ≡ (if has i then Some (contents n i) else None)) → IsChange m call (says (list_of m) d)
led_change m n call d has is written says_so i =
    says_so i ∙ sym (λ j. cond (is_accepted (is j) && written i j) (Some (contents (after m (is j)) i)) None)

-- the reply and the change of a call that leads to the state with this row
written_answer : (v : Sight) (m : State) (call : Call) (key : Text) (row : Row) (delay : ℕ) → Rewrites v m key (Some row) → step m call ≡ leads (with_row m key row)
    → answer (with_row m key row) call ≡ flight_answer (with_row m key row) key
    → ((i : ItemName) → would_write m call i ≡ has_written m key (Some row) i)
    → delay_of (with_row m key row) key row ≡ delay
    → IsAnswerIn m call (reply_with_message key row delay (is_issued (row_of m key)) (ctot_before m key), flight_written v key (row_of m key) (Some row))
written_answer v m call key row delay r is answers written delayed = (
  sym (told_one m key row delay r.good delayed) ∙ sym (ap (reply_of m call) is ∙ ap (λ (a : Answer). Answered a (messages m (with_row m key row))) answers),
  led_change m (with_row m key row) call (flight_written v key (row_of m key) (Some row)) (has_written m key (Some row)) is written (change_is v m key (Some row) r),
)

-- the lists that a view has of a flight, as it stood and as it may stand with another plan
abbrev pub ShowsLists : Sight → State → Option Row → FlightPlan → Type 0
ShowsLists v m was plan = (id : Text) → (is_over_in m was id || is_subject m plan id) ≡ true → list_in v id ≡ list_of m id

-- the list that governs a flight is shown: it is one of the flight's
governing_shown : (v : Sight) (m : State) (was : Option Row) (plan : FlightPlan) → ShowsLists v m was plan → (w : Option Text) → IfSome w (λ id. is_over_in m was id ≡ true) → option_and_then (list_in v) w ≡ option_and_then (list_of m) w
governing_shown v m was plan shown None h = refl
governing_shown v m was plan shown (Some id) h = shown id (or_left _ _ h)

-- it is where each list is shown that governs the flight
pub governing_seen : (v : Sight) (m : State) (key : Text) (row : Row) → ((id : Text) → governs m id key ≡ true → list_in v id ≡ list_of m id) → row_of m key ≡ Some row → option_and_then (list_in v) row.governing ≡ governing_list m row
governing_seen v m key row lists found = by row.governing refl
  where
    by : (w : Option Text) → row.governing ≡ w → option_and_then (list_in v) w ≡ option_and_then (list_of m) w
    by None e = refl
    by (Some id) e = lists id (governs_own m key row id found e)

-- the take-off time before the call
before_is : (v : Sight) (m : State) (key : Text) (plan : FlightPlan) (was : Option Row) → IsGood m → row_of m key ≡ was → ShowsLists v m was plan → ctot_shown_if v key was ≡ ctot_before m key
before_is v m key plan None good found shown = sym (ap (λ (w : Option Row). option_map_or (ctot_of m key) w 0) found)
before_is v m key plan (Some old) good found shown =
    ap (λ (w : Option Listing). etot old.plan + option_map_or (λ (l : Listing). delay_in l key) w 0) (governing_shown v m (Some old) plan shown old.governing (own_row m key old good found))
    ∙ sym (ap (λ (w : Option Row). option_map_or (ctot_of m key) w 0) found)

-- it is right to tell and write this row, in place of the one that stood there
pub row_answer : (v : Sight) (m : State) (call : Call) (key : Text) (was : Option Row) (row : Row) (delay : ℕ) → IsGood m → row_of m key ≡ was
    → regulations_in v ≡ catalogue m → ShowsLists v m was row.plan
    → step m call ≡ leads (with_row m key row)
    → answer (with_row m key row) call ≡ flight_answer (with_row m key row) key
    → ((i : ItemName) → would_write m call i ≡ has_written m key (Some row) i)
    → delay_of (with_row m key row) key row ≡ delay
    → IsAnswerIn m call (rewrite_flight v key was row delay)
row_answer v m call key was row delay good found regs shown is answers written delayed =
    let r : Rewrites v m key (Some row) = record {
      good = good;
      regulations = regs;
      lists = λ id h. shown id (ap (λ (w : Option Row). is_over_in m w id || is_subject m row.plan id) (sym found) ∙ h);
    } in
    let before : ctot_shown_if v key was ≡ ctot_before m key = before_is v m key row.plan was good found shown in
    let right = written_answer v m call key row delay r is answers written delayed in
    let P : Option Row → ℕ → Type 0 = λ w t. IsAnswerIn m call (reply_with_message key row delay (is_issued w) t, flight_written v key w (Some row)) in
    subst (λ w. P w (ctot_shown_if v key was)) found (subst (P (row_of m key)) (sym before) right)

pub plan_kept : (clock : ℕ) (row : Row) (o : Option Offer) → (with_offer clock row o).plan ≡ row.plan
plan_kept clock row None = refl
plan_kept clock row (Some o) = refl

-- and so it is to have an ungoverned flight enter with the offer that it takes
pub entering_answer : (v : Sight) (m : State) (call : Call) (key : Text) (was : Option Row) (row : Row) (clock : ℕ) → IsGood m → row_of m key ≡ was → row.governing ≡ None
    → clock ≡ m.clock → Finds (situation_in v) row.plan m → ShowsLists v m was row.plan
    → step m call ≡ leads (with_row m key (row_after_entry (situation m) key row))
    → ((n : State) → answer n call ≡ flight_answer n key)
    → ((i : ItemName) (new : Row) → new.plan ≡ row.plan → would_write m call i ≡ has_written m key (Some new) i)
    → let o : Option Offer = entry_offer v key row in
    let new : Row = with_offer clock row o in
    IsAnswerIn m call (reply_to_change v key was new (offered_delay o), flight_written v key was (Some new))
entering_answer v m call key was row clock good found free at finds shown is answers written =
    let o : Option Offer = offer_found (situation m) key row in
    let new : Row = with_offer m.clock row o in
    let same : entry_offer v key row ≡ o = entry_same v m key row finds in
    let kept : new.plan ≡ row.plan = plan_kept m.clock row o in
    let here : step m call ≡ leads (with_row m key new) = is ∙ ap (λ (r : Row). leads (with_row m key r)) (entered_is (situation m) key row) in
    let right : IsAnswerIn m call (reply_to_change v key was new (offered_delay o), flight_written v key was (Some new)) =
    row_answer v m call key was new (offered_delay o) good found finds.regulations
    (λ id h. shown id (ap (λ (p : FlightPlan). is_over_in m was id || is_subject m p id) (sym kept) ∙ h))
    here (answers (with_row m key new)) (λ i. written i new kept) (entered_delay m key row good free) in
    let P : ℕ → Option Offer → Type 0 = λ t x. IsAnswerIn m call (reply_to_change v key was (with_offer t row x) (offered_delay x), flight_written v key was (Some (with_offer t row x))) in
    subst (λ t. P t (entry_offer v key row)) (sym at) (subst (P m.clock) (sym same) right)

-- the governing list of a flight that is there is shown
pub governing_there : (v : Sight) (m : State) (plan : FlightPlan) (key : Text) (row : Row) → IsGood m → row_of m key ≡ Some row → ShowsLists v m (Some row) plan → option_and_then (list_in v) row.governing ≡ governing_list m row
governing_there v m plan key row good found shown = governing_shown v m (Some row) plan shown row.governing (own_row m key row good found)

-- it is right to leave the flight as it is
pub unchanged_answer : (v : Sight) (m : State) (call : Call) (key : Text) (row : Row) → IsGood m → row_of m key ≡ Some row → option_and_then (list_in v) row.governing ≡ governing_list m row
    → step m call ≡ leads m → answer m call ≡ flight_answer m key → ((i : ItemName) → would_write m call i ≡ false)
    → IsAnswerIn m call (leave_unchanged v key row)
unchanged_answer v m call key row good found governs is answers spares = (
  (λ i. Answered (Flight (flight_with key row (option_map_or (λ (l : Listing). delay_in l key) (governs i) 0))) [])
      ∙ sym (ap (reply_of m call) is
      ∙ (λ i. Answered (answers i) (messages_self m good i))
      ∙ ap (λ (w : Option Row). Answered (option_map_or (λ (r : Row). Flight (flight_reply m key r)) w Done) []) found),
  led_change m m call nothing_written (λ i. false) is spares (says-nothing (list_of m)),
)
