-- what is answered by a view is the answer in each good state of which it shows what the call reads: call by call
use Rattle.std.proofs.Common.{◌≡◌, ℕ, ◌+◌, List, [], Bool, true, false, refl, sym, ap, subst, ◌∙◌, Option, None, Some, not, ◌&&◌, ◌||◌, is_some, nat_lt, unwrap_or}
use Rattle.std.specs.Option.{option_map_or, option_and_then}
use Rattle.std.proofs.lemmas.Bool.{or_right}
use Rattle.casa_flight.specs.declared.call.Call.{Call}
use Rattle.casa_flight.specs.declared.call.Call.TheVariants.{File, Amend, Cancel, Revise, Exempt, Show}
use Rattle.casa_flight.specs.declared.call.Refusal.TheVariants.{Duplicate, NoFlight, Late, AlreadyExempt}
use Rattle.casa_filing.specs.declared.regulation.Regulation.{Regulation}
use Rattle.casa_flight.specs.declared.reply.Answer.TheVariants.{Done}
use Rattle.casa_flight.specs.declared.reply.Message.{Message}
use Rattle.casa_flight.specs.declared.reply.Reply.TheVariants.{Answered}
use Rattle.casa_flight.specs.declared.row.Row.{Row}
use Rattle.casa_flight.specs.declared.state.State.{State}
use Rattle.casa_filing.specs.Text.{Text, same_text}
use Rattle.casa_filing.specs.FlightPlan.{FlightPlan, etot}
use Rattle.casa_filing.specs.Subject.{is_gone}
use Rattle.casa_flight.specs.State.{row_of, with_row, catalogue, is_exempt, ungoverned}
use Rattle.casa_flight.specs.Listing.{Listing, list_of, governing_list, delay_in, delay_of, ctot_of}
use Rattle.casa_flight.specs.Entry.{Offer, situation, row_after_entry}
use Rattle.casa_flight.specs.Steps.{Step, leads, step, new_row, file, amend, cancel, is_revised, state_if, revise, exempt, exempt_if, show}
use Rattle.casa_flight.specs.Replies.{reply_of, messages}
use Rattle.casa_flight.specs.Messages.{messages_in}
use Rattle.casa_flight.specs.Good.{IsGood}
use Rattle.casa_laws.proofs.Outcomes.{exempted, set_row}
use Rattle.casa_laws.proofs.Times.{delay_free}
use Rattle.casa_laws.proofs.RegMessages.{call_silent}
use Rattle.casa_footprint.specs.Items.{ItemName, the_clock, the_catalogue, a_row, a_list}
use Rattle.casa_footprint.specs.Footprint.{is_subject, is_list_of, governs, reads, holds, would_write}
use Rattle.casa_footprint.proofs.Names.{text_itself}
use Rattle.casa_footprint.proofs.OneFlight.{is_over_in, has_written, either_same}
use Rattle.casa_footprint.proofs.FlightCalls.{file_writes, amend_writes, cancel_writes, holds_at, revise_writes, exempt_writes}
use Rattle.casa_footprint.specs.Change.{IsChange}
use Rattle.casa_plan_spec.specs.Sight.{Sight, says, IsSightOf, IsPlanned, IsAnswerIn, clock_in, regulations_in, situation_in, list_in, row_in}
use Rattle.casa_plan_spec.specs.OneFlight.{entry_offer, with_offer, offered_delay, flight_written}
use Rattle.casa_plan_spec.specs.Messages.{ctot_by}
use Rattle.casa_plan_spec.specs.FlightCalls.{leave_unchanged, take_offer, take_offer_if, file_if, amend_if, cancel_at, revise_at, exempt_at, mark_exempt_if, show_at, is_taken}
use Rattle.casa_plan_spec.specs.FlightCalls as planned
use Rattle.casa_plan_spec.proofs.FlightOffers.{offer_found, Finds, entry_same, entered_is, entered_delay}
use Rattle.casa_plan_spec.proofs.FlightLists.{Rewrites, change_is}
use Rattle.casa_plan_spec.proofs.FlightAnswers.{ShowsLists, refused_answer, row_answer, entering_answer, led_change, governing_seen, governing_there, unchanged_answer, plan_kept}

clock_is : (v : Sight) (m : State) (call : Call) → IsSightOf m call v → reads m call the_clock ≡ true → clock_in v ≡ m.clock
clock_is v m call of h = ap (λ (w : Option ℕ). unwrap_or w 0) (of.clock h)

regulations_are : (v : Sight) (m : State) (call : Call) → IsSightOf m call v → reads m call the_catalogue ≡ true → regulations_in v ≡ catalogue m
regulations_are v m call of h = ap (λ (w : Option (List Regulation)). unwrap_or w []) (of.catalogue h)

-- a call that reads the lists of the flight as it stands shows them
own_lists : (v : Sight) (m : State) (call : Call) (key : Text) (row : Row) → IsSightOf m call v → row_of m key ≡ Some row → ((id : Text) → is_list_of m key id ≡ true → reads m call (a_list id) ≡ true) → ShowsLists v m (Some row) row.plan
own_lists v m call key row of found read id h =
    of.list id (read id (ap (λ (w : Option Row). is_over_in m w id) found ∙ sym (either_same (is_subject m row.plan id)) ∙ h))

pub file_planned : (v : Sight) (plan : FlightPlan) → IsPlanned v (File plan) (planned.file v plan)
file_planned v plan m good of =
    subst (λ t. IsAnswerIn m (File plan) (file_if v plan (row_in v plan.key) (nat_lt plan.eobt t))) (sym at)
    (by (row_in v plan.key) found (nat_lt plan.eobt m.clock) refl)
  where
    at : clock_in v ≡ m.clock
    at = clock_is v m (File plan) of refl

    found : row_of m plan.key ≡ row_in v plan.key
    found = sym (of.row plan.key (text_itself plan.key))

    by : (w : Option Row) → row_of m plan.key ≡ w → (late : Bool) → nat_lt plan.eobt m.clock ≡ late → IsAnswerIn m (File plan) (file_if v plan w late)
    by (Some row) e late h = refused_answer m (File plan) Duplicate (ap (λ (w : Option Row). file m plan w (nat_lt plan.eobt m.clock)) e)
    by None e true h = refused_answer m (File plan) Late (λ i. file m plan (e i) (h i))
    by None e false h =
        let finds : Finds (situation_in v) plan m = record {
          good = good;
          clock = at;
          regulations = regulations_are v m (File plan) of refl;
          lists = λ id s. of.list id s;
        } in
        entering_answer v m (File plan) plan.key None (new_row plan) (clock_in v) good e refl at finds
        (λ id s. of.list id s)
        (λ i. file m plan (e i) (h i))
        (λ n. refl)
        (λ i new kept. file_writes m plan new e kept i)

pub amend_planned : (v : Sight) (plan : FlightPlan) → IsPlanned v (Amend plan) (planned.amend v plan)
amend_planned v plan m good of =
    subst (λ t. IsAnswerIn m (Amend plan) (amend_if v plan (row_in v plan.key) (nat_lt plan.eobt t))) (sym at)
    (by (row_in v plan.key) found (nat_lt plan.eobt m.clock) refl)
  where
    at : clock_in v ≡ m.clock
    at = clock_is v m (Amend plan) of refl

    found : row_of m plan.key ≡ row_in v plan.key
    found = sym (of.row plan.key (text_itself plan.key))

    by : (w : Option Row) → row_of m plan.key ≡ w → (late : Bool) → nat_lt plan.eobt m.clock ≡ late → IsAnswerIn m (Amend plan) (amend_if v plan w late)
    by None e late h = refused_answer m (Amend plan) NoFlight (ap (λ (w : Option Row). amend m plan w (nat_lt plan.eobt m.clock)) e)
    by (Some row) e true h = refused_answer m (Amend plan) Late (λ i. amend m plan (e i) (h i))
    by (Some row) e false h =
        let read : ShowsLists v m (Some row) plan = λ id s. of.list id (ap (λ (w : Option Row). is_over_in m w id || is_subject m plan id) e ∙ s) in
        let finds : Finds (situation_in v) plan m = record {
          good = good;
          clock = at;
          regulations = regulations_are v m (Amend plan) of refl;
          lists = λ id s. read id (or_right _ _ s);
        } in
        entering_answer v m (Amend plan) plan.key (Some row) (record (ungoverned row) { plan = plan }) (clock_in v) good e refl at finds
        read
        (λ i. amend m plan (e i) (h i))
        (λ n. refl)
        (λ i new kept. amend_writes m plan new kept i)

pub exempt_planned : (v : Sight) (key : Text) → IsPlanned v (Exempt key) (planned.exempt v key)
exempt_planned v key m good of = by (row_in v key) found
  where
    found : row_of m key ≡ row_in v key
    found = sym (of.row key (text_itself key))

    mark : (row : Row) → row_of m key ≡ Some row → (b : Bool) → is_exempt row ≡ b → IsAnswerIn m (Exempt key) (mark_exempt_if v key row b)
    mark row e true h = refused_answer m (Exempt key) AlreadyExempt (ap (exempt m key) e ∙ ap (exempt_if m key row) h)
    mark row e false h =
        let new : Row = exempted row in
        row_answer v m (Exempt key) key (Some row) new 0 good e (regulations_are v m (Exempt key) of refl)
        (own_lists v m (Exempt key) key row of e (λ id s. s))
        (ap (exempt m key) e ∙ ap (exempt_if m key row) h)
        refl
        (exempt_writes m key row e)
        (delay_free (with_row m key new) key new refl)

    by : (w : Option Row) → row_of m key ≡ w → IsAnswerIn m (Exempt key) (exempt_at v key w)
    by None e = refused_answer m (Exempt key) NoFlight (ap (exempt m key) e)
    by (Some row) e = mark row e (is_exempt row) refl

pub cancel_planned : (v : Sight) (key : Text) → IsPlanned v (Cancel key) (planned.cancel v key)
cancel_planned v key m good of = by (row_in v key) found
  where
    found : row_of m key ≡ row_in v key
    found = sym (of.row key (text_itself key))

    by : (w : Option Row) → row_of m key ≡ w → IsAnswerIn m (Cancel key) (cancel_at v key w)
    by None e = refused_answer m (Cancel key) NoFlight (ap (cancel m key) e)
    by (Some row) e =
        let n : State = set_row m key None in
        let is : step m (Cancel key) ≡ leads n = ap (cancel m key) e in
        let silent : messages m n ≡ [] = sym (ap (λ (s : Step). messages_in (reply_of m (Cancel key) s)) is) ∙ call_silent m (Cancel key) good refl in
        let r : Rewrites v m key None = record {
          good = good;
          regulations = regulations_are v m (Cancel key) of refl;
          lists = λ id s. of.list id (cancel_writes m key (a_list id) ∙ s);
        } in (
          sym (ap (reply_of m (Cancel key)) is ∙ ap (λ (ms : List Message). Answered Done ms) silent),
          subst (λ (w : Option Row). IsChange m (Cancel key) (says (list_of m) (flight_written v key w None))) e (led_change m n (Cancel key) (flight_written v key (row_of m key) None) (has_written m key None) is (cancel_writes m key) (change_is v m key None r)),
        )

pub show_planned : (v : Sight) (key : Text) → IsPlanned v (Show key) (planned.show v key)
show_planned v key m good of = by (row_in v key) found
  where
    found : row_of m key ≡ row_in v key
    found = sym (of.row key (text_itself key))

    spares : (i : ItemName) → would_write m (Show key) i ≡ false
    spares the_clock = refl
    spares the_catalogue = refl
    spares (a_row other) = refl
    spares (a_list id) = refl

    by : (w : Option Row) → row_of m key ≡ w → IsAnswerIn m (Show key) (show_at v key w)
    by None e = refused_answer m (Show key) NoFlight (ap (show m) e)
    by (Some row) e = unchanged_answer v m (Show key) key row good e (governing_seen v m key row of.list e) (ap (show m) e) refl spares

-- the test of Revise by the view is that in the state
revised_same : (v : Sight) (m : State) (key : Text) (row : Row) → IsGood m → row_of m key ≡ Some row → clock_in v ≡ m.clock → Finds (situation_in v) row.plan m → option_and_then (list_in v) row.governing ≡ governing_list m row
    → is_taken v key row (entry_offer v key (ungoverned row)) ≡ is_revised m key row (row_after_entry (situation m) key (ungoverned row))
revised_same v m key row good e at finds governs =
    let free : Row = ungoverned row in
    let o : Option Offer = offer_found (situation m) key free in
    let new : Row = with_offer m.clock free o in
    let delay : delay_of (with_row m key new) key new ≡ offered_delay o = entered_delay m key free good refl in
    let before : ctot_by (list_in v) key row ≡ ctot_of m key row = ap (λ (w : Option Listing). etot row.plan + option_map_or (λ (l : Listing). delay_in l key) w 0) governs in
    (λ i. not (is_some row.issued) || (not (is_gone (at i) row.plan) && nat_lt (etot row.plan + offered_delay (entry_same v m key free finds i)) (before i)))
    ∙ sym (λ i. not (is_some row.issued) || (not (is_gone m.clock row.plan) && nat_lt (etot (plan_kept m.clock free o i) + delay i) (ctot_of m key row)))
    ∙ ap (is_revised m key row) (sym (entered_is (situation m) key free))

pub revise_planned : (v : Sight) (key : Text) → IsPlanned v (Revise key) (planned.revise v key)
revise_planned v key m good of = by (row_in v key) found
  where
    found : row_of m key ≡ row_in v key
    found = sym (of.row key (text_itself key))

    at : clock_in v ≡ m.clock
    at = clock_is v m (Revise key) of refl

    spares : (i : ItemName) → holds m key ≡ false → would_write m (Revise key) i ≡ false
    spares the_clock h = refl
    spares the_catalogue h = refl
    spares (a_row other) h = ap (λ b. b && same_text key other) h
    spares (a_list id) h = ap (λ b. b && is_list_of m key id) h

    by : (w : Option Row) → row_of m key ≡ w → IsAnswerIn m (Revise key) (revise_at v key w)
    by None e = refused_answer m (Revise key) NoFlight (ap (revise m key) e)
    by (Some row) e = subst (λ b. IsAnswerIn m (Revise key) (take_offer_if b v key row o)) (sym same) (if_so (is_revised m key row new) refl)
      where
        free : Row
        free = ungoverned row

        o : Option Offer
        o = entry_offer v key free

        new : Row
        new = row_after_entry (situation m) key free

        lists : ShowsLists v m (Some row) row.plan
        lists = own_lists v m (Revise key) key row of e (λ id s. s)

        finds : Finds (situation_in v) row.plan m
        finds = record {
          good = good;
          clock = at;
          regulations = regulations_are v m (Revise key) of refl;
          lists = λ id s. lists id (or_right _ _ s);
        }

        governs : option_and_then (list_in v) row.governing ≡ governing_list m row
        governs = governing_there v m row.plan key row good e lists

        same : is_taken v key row o ≡ is_revised m key row new
        same = revised_same v m key row good e at finds governs

        leading : (b : Bool) → is_revised m key row new ≡ b → step m (Revise key) ≡ leads (state_if b (with_row m key new) m)
        leading b h = ap (revise m key) e ∙ ap (λ b. leads (state_if b (with_row m key new) m)) h

        if_so : (b : Bool) → is_revised m key row new ≡ b → IsAnswerIn m (Revise key) (take_offer_if b v key row o)
        if_so true h =
            entering_answer v m (Revise key) key (Some row) free (clock_in v) good e refl at finds lists (leading true h) (λ n. refl)
            (λ i r kept. revise_writes m key row r e (holds_at m key row e ∙ h) kept i)
        if_so false h = unchanged_answer v m (Revise key) key row good e governs (leading false h) refl (λ i. spares i (holds_at m key row e ∙ h))
