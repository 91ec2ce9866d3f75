-- the messages of Tick and of the calls on regulations, from a good state, and those of every call
use Rattle.std.proofs.Common.{◌≡◌, ℕ, ◌+◌, ◌-◌, List, [], ◌∷◌, Bool, true, false, not, ◌&&◌, refl, sym, ap, subst, ◌∙◌, Option, None, Some, is_some, unwrap_or, arith}
use Rattle.std.specs.Ordering.{is_eq}
use Rattle.std.specs.Option.{option_map, option_and_then, option_map_or}
use Rattle.std.specs.List.{All}
use Rattle.std.proofs.lemmas.Bool.{both_ways, and_from, not-true}
use Rattle.std.proofs.lemmas.Cmp.{nat_list_eq_equiv}
use Rattle.casa_grid.specs.declared.period.Period.{Period}
use Rattle.casa_grid.specs.Profile.{start_of, end_of}
use Rattle.casa_grid.specs.Slots.{slots}
use Rattle.casa_grid.specs.TimeOver.{cto}
use Rattle.casa_flight.specs.declared.call.Call.{Call}
use Rattle.casa_flight.specs.declared.call.Call.TheVariants.{File, Amend, Cancel, Revise, Exempt, OpenReg, CloseReg, Rates, Tick, Show, List as ListOf, Swap}
use Rattle.casa_flight.specs.declared.call.Refusal.{Refusal}
use Rattle.casa_flight.specs.declared.comp.Comp.{Comp}
use Rattle.casa_filing.specs.declared.regulation.Measure.{Measure}
use Rattle.casa_flight.specs.declared.reply.Message.{Message}
use Rattle.casa_flight.specs.declared.reply.Message.TheVariants.{Sam, Srm, Slc}
use Rattle.casa_flight.specs.declared.row.Row.{Row}
use Rattle.casa_flight.specs.declared.row.Stance.{Stance}
use Rattle.casa_flight.specs.declared.row.Stance.TheVariants.{Competing}
use Rattle.casa_flight.specs.declared.state.State.{State}
use Rattle.casa_filing.specs.Text.{Text, same_text, at_name, put, without}
use Rattle.casa_filing.specs.FlightPlan.{etot}
use Rattle.casa_filing.specs.Subject.{regulation, subject, is_due, is_gone}
use Rattle.casa_flight.specs.State.{row_of, measure_of, is_exempt, is_governed_by}
use Rattle.casa_flight.specs.Listing.{Listing, listing, list_of, place_of, cto_as, cto_of, ctot_of, delay_of}
use Rattle.casa_flight.specs.Entry.{enter_all, is_to_issue, issued_in, issue_if, issue_due}
use Rattle.casa_flight.specs.Steps.{refused, leads, flights_over, may_compete, take_in, ungoverned_if, state_without_regulation, keeps_span, ends_later, extends, step}
use Rattle.casa_flight.specs.Replies.{message, is_issued, ctot_before, reply, reply_of}
use Rattle.casa_flight.specs.Good.{AreInOrder, IsOutside, IsGood, IsFree, IsGoverned}
use Rattle.casa_flight.specs.Messages.{messages_in, Passes, CanCome, is_silent}
use Rattle.casa_filing.proofs.Entries.{text_cmp, same_name, apart, at-put_same, at-put_other, at-without_other, at-map}
use Rattle.casa_laws.proofs.Kept.{at-without_same}
use Rattle.casa_laws.proofs.Lists.{stance_is}
use Rattle.casa_laws.proofs.Times.{delay_governed}
use Rattle.casa_laws.proofs.Choice.{subject-later}
use Rattle.casa_laws.proofs.Outcomes.{open_cases, close_cases, rates_cases, tick_cases, show_cases, list_cases}
use Rattle.casa_laws.proofs.GoodTick.{competing, KeepsSpan, span_kept, tick-good}
use Rattle.casa_laws.proofs.GoodRegs.{opened-good, closed-good, extended-good}
use Rattle.casa_laws.proofs.ChangeMessages.{message_cases, each_message, governed_name, governed_by, free_of, TakesTimes, StaysOpen, stays, message_none}
use Rattle.casa_laws.proofs.EnterAll.{row-enter_all, plan-enter_all, clock-enter_all, regs-enter_all, not_taken}
use Rattle.casa_laws.proofs.SwapMessages.{swap_comes}
use Rattle.casa_laws.proofs.CallMessages.{Comes, refused_comes, no_message, unchanged, not_outside, not_due, was_due, file_comes, amend_comes, cancel_comes, exempt_comes, revise_comes}

-- a flight that is to be issued is governed, and not issued
pub to_issue_parts : (g : Option Text) (i : Option ℕ) (d : Bool) → (is_some g && (not (is_some i) && d)) ≡ true → i ≡ None
to_issue_parts (Some id) None d h = refl
to_issue_parts (Some id) (Some t) d h = cc
to_issue_parts None i d h = cc

-- a flight is issued at the calculated time over that it has, and so its take-off time stays
pub issued_at : (m : State) (key id : Text) (row : Row) (measure : Measure) (eto : ℕ) → AreInOrder m.rows → row_of m key ≡ Some row → row.governing ≡ Some id → row.issued ≡ None → measure_of m id ≡ Some measure → subject row.plan (regulation id measure) ≡ Some eto
    → (issued_in m key row).issued ≡ Some (cto (slots measure.profile) (end_of measure.profile) eto (place_of (listing m.rows id measure) key))
issued_at m key id row measure eto sorted found governs waits opened over =
    let l : Listing = listing m.rows id measure in
    let listed : list_of m id ≡ Some l = ap (λ (w : Option Measure). option_map (listing m.rows id) w) opened in
    let stands : at_name l.flights key ≡ Some (Competing eto) = stance_is m key id measure l (Some row) sorted opened listed found ∙ competing id measure row eto governs waits over in
    ap (λ (w : Option Text). option_and_then (λ (l : Listing). cto_of l key) (option_and_then (list_of m) w)) governs
    ∙ ap (λ (w : Option Listing). option_and_then (λ (l : Listing). cto_of l key) w) listed
    ∙ ap (λ (w : Option Stance). option_map (cto_as l key) w) stands

ctot_stays : (m n : State) (key id : Text) (row : Row) → IsGood m → m.regs ≡ n.regs → AreInOrder n.rows → row_of m key ≡ Some row → row_of n key ≡ Some (issued_in m key row) → row.governing ≡ Some id → row.issued ≡ None
    → ctot_of n key (issued_in m key row) ≡ ctot_before m key
ctot_stays m n key id row good same sorted found later governs waits =
    let g : IsGoverned m.clock m.regs row id = governed_by m key row id good found governs in
    let new : Row = issued_in m key row in
    let ws = slots g.measure.profile in
    let end : ℕ = end_of g.measure.profile in
    let before : delay_of m key row ≡ unwrap_or row.issued (cto ws end g.eto (place_of (listing m.rows id g.measure) key)) - g.eto =
    delay_governed m key id row g.measure g.eto good.rows_in_order found governs g.is_open g.is_subject in
    let now : delay_of n key new ≡ unwrap_or new.issued (cto ws end g.eto (place_of (listing n.rows id g.measure) key)) - g.eto =
    delay_governed n key id new g.measure g.eto sorted later governs (ap (λ (es : List (Text × Measure)). at_name es id) (sym same) ∙ g.is_open) g.is_subject in
    let issued = issued_at m key id row g.measure g.eto good.rows_in_order found governs waits g.is_open g.is_subject in
    let both : delay_of n key new ≡ delay_of m key row =
    now ∙ ap (λ (w : Option ℕ). unwrap_or w (cto ws end g.eto (place_of (listing n.rows id g.measure) key)) - g.eto) issued
    ∙ sym (before ∙ ap (λ (w : Option ℕ). unwrap_or w (cto ws end g.eto (place_of (listing m.rows id g.measure) key)) - g.eto) waits) in
    ap (λ d. etot row.plan + d) both ∙ sym (ap (λ (w : Option Row). option_map_or (ctot_of m key) w 0) found)

-- nothing is the message of a flight whose row stays
stays_silent : (Q : Message → Type 0) (m n : State) (key : Text) (row : Row) (x : Message) → IsGood m → AreInOrder n.rows → ((id : Text) → row.governing ≡ Some id → StaysOpen m n id) → row_of m key ≡ Some row → row_of n key ≡ Some row → message m n key row ≡ Some x → Q x
stays_silent Q m n key row x good sorted lasts before found h =
    let none : None ≡ Some x = sym (message_none m n key row good sorted lasts before found) ∙ h in cc

-- whose row passes a test, once it is known
passes : (m : State) (key : Text) (row : Row) (test : Row → Bool) → row_of m key ≡ Some row → test row ≡ true → Passes m key test
passes m key row test found h = ap (λ (w : Option Row). option_map_or test w false) found ∙ h

governs_it : (id : Text) (row : Row) → row.governing ≡ Some id → is_governed_by id row ≡ true
governs_it id row governs = ap (λ (w : Option Text). option_map_or (same_text id) w false) governs ∙ nat_list_eq_equiv.refl id

-- at a tick a flight that is to be issued gets its message, and no other gets one
tick_message : (m : State) (at : ℕ) (key : Text) (old : Row) (x : Message) (b : Bool) → let t : State = record m { clock = at } in let n : State = issue_due t in
    IsGood m → AreInOrder n.rows → is_to_issue at old ≡ b → row_of m key ≡ Some old → row_of n key ≡ Some (issue_if b t key old) → message m n key (issue_if b t key old) ≡ Some x → CanCome m (Tick at) x
tick_message m at key old x false good sorted is before found h =
    stays_silent (CanCome m (Tick at)) m (issue_due (record m { clock = at })) key old x good sorted (λ id governs. stays m (issue_due (record m { clock = at })) id (λ a opened. opened)) before found h
tick_message m at key old x true good sorted is before found h =
    let n : State = issue_due (record m { clock = at }) in
    let row : Row = issued_in m key old in
    let waits : old.issued ≡ None = to_issue_parts old.governing old.issued (is_due at old.plan) is in
    let not_issued : is_issued (row_of m key) ≡ false = ap is_issued before ∙ ap is_some waits in
    message_cases (CanCome m (Tick at)) key row.governing (is_issued (row_of m key)) (is_some row.issued) (ctot_before m key) (ctot_of n key row)
    (λ reg governs was now.
    (ctot_stays m n key reg old good refl sorted before found governs waits, passes m key old (λ r. is_to_issue at r && is_governed_by reg r) before (and_from _ _ is (governs_it reg old governs))))
    (λ reg governs was now other. both_ways _ not_issued was)
    (λ was now. both_ways _ not_issued was) x h

tick_each : (m : State) (at : ℕ) (key : Text) (row : Row) (x : Message) (w : Option Row) → let n : State = issue_due (record m { clock = at }) in
    IsGood m → AreInOrder n.rows → row_of m key ≡ w → row_of n key ≡ Some row → message m n key row ≡ Some x → CanCome m (Tick at) x
tick_each m at key row x w good sorted before found h = by w before
  where
    t : State
    t = record m { clock = at }

    n : State
    n = issue_due t

    new : Text → Row → Row
    new k r = issue_if (is_to_issue at r) t k r

    by : (w : Option Row) → row_of m key ≡ w → CanCome m (Tick at) x
    by None e = let none : None ≡ Some row = sym (at-map new key m.rows ∙ ap (option_map (new key)) e) ∙ found in cc
    by (Some old) e =
        let there : row_of n key ≡ Some (new key old) = at-map new key m.rows ∙ ap (option_map (new key)) e in
        let rows : Some (new key old) ≡ Some row = sym there ∙ found in
        let same : new key old ≡ row = cc in
        tick_message m at key old x (is_to_issue at old) good sorted refl e there (subst (λ r. message m n key r ≡ Some x) (sym same) h)

tick_comes : (m : State) (at : ℕ) → IsGood m → Comes m (Tick at) (step m (Tick at))
tick_comes m at good =
    tick_cases m (Comes m (Tick at)) (refused_comes m (Tick at)) at
    (λ forward.
    let sorted : AreInOrder (issue_due (record m { clock = at })).rows = (tick-good m at forward good).rows_in_order in
    each_message (CanCome m (Tick at)) m (issue_due (record m { clock = at })) sorted
    (λ key row x found h. tick_each m at key row x (row_of m key) good sorted refl found h))

-- a flight that is there after others entered was there before, with its plan
was_there : (s : State) (cs : List Comp) (key : Text) (row old : Row) → row_of (enter_all s cs) key ≡ Some row → row_of s key ≡ Some old → row.plan ≡ old.plan
was_there s cs key row old found before =
    let plans : Some row.plan ≡ Some old.plan = sym (ap (option_map (λ (r : Row). r.plan)) found) ∙ plan-enter_all s key cs ∙ ap (option_map (λ (r : Row). r.plan)) before in
    cc

-- where a flight that passes a test is filed
passing_row : (m : State) (key : Text) (test : Row → Bool) → Passes m key test → (row : Row) × (row_of m key ≡ Some row) × (test row ≡ true)
passing_row m key test = by (row_of m key)
  where
    by : (w : Option Row) → option_map_or test w false ≡ true → (row : Row) × (w ≡ Some row) × (test row ≡ true)
    by None h = cc
    by (Some row) h = (row, refl, h)

-- a flight that may compete is neither exempt nor gone nor governed
pub competes : (a b : Bool) (g : Option Text) → (not a && (not b && not (is_some g))) ≡ true → (a ≡ false) × (b ≡ false) × (g ≡ None)
competes false false None h = (refl, refl, refl)
competes false false (Some id) h = cc
competes false true g h = cc
competes true b g h = cc

-- a regulation that opens or ends later takes flights in: neither the clock nor another regulation changes
pub regs-take_in : (m : State) (id : Text) (measure : Measure) → (take_in m id measure).regs ≡ put m.regs id measure
regs-take_in m id measure = regs-enter_all (record m { regs = put m.regs id measure }) (flights_over (may_compete m.clock) (regulation id measure) m.rows)

pub clock-take_in : (m : State) (id : Text) (measure : Measure) → (take_in m id measure).clock ≡ m.clock
clock-take_in m id measure = clock-enter_all (record m { regs = put m.regs id measure }) (flights_over (may_compete m.clock) (regulation id measure) m.rows)

-- a flight that may not compete keeps its row
pub row-take_in : (m : State) (id : Text) (measure : Measure) (key : Text) → IsGood m → option_map_or (may_compete m.clock) (row_of m key) false ≡ false → row_of (take_in m id measure) key ≡ row_of m key
row-take_in m id measure key good t =
    row-enter_all (record m { regs = put m.regs id measure }) key (flights_over (may_compete m.clock) (regulation id measure) m.rows) (not_taken m key (may_compete m.clock) (regulation id measure) good t)

-- what governs a flight that was outside is that regulation
pub take_in_governs : (m n : State) (id : Text) (measure : Measure) (row old : Row) (reg : Text) → n.regs ≡ put m.regs id measure → IsOutside m.regs old.plan → row.plan ≡ old.plan → IsGoverned n.clock n.regs row reg → reg ≡ id
take_in_governs m n id measure row old reg regs out plans g =
    elim (is_eq (text_cmp reg id)) as (λ t. is_eq (text_cmp reg id) ≡ t → reg ≡ id) [
      | true ↦ λ t. same_name reg id t
      | false ↦ λ t.
          let there : at_name m.regs reg ≡ Some g.measure = sym (at-put_other reg id measure m.regs t) ∙ ap (λ (es : List (Text × Measure)). at_name es reg) (sym regs) ∙ g.is_open in
          absurd (not_outside m.regs old.plan reg g.measure g.eto out there (ap (λ p. subject p (regulation reg g.measure)) (sym plans) ∙ g.is_subject))
    ] refl

-- the message of a flight: one that is taken in may be issued at once
take_in_message : (Q : Message → Type 0) (m : State) (id : Text) (measure : Measure) (key : Text) (row : Row) (x : Message) → let n : State = take_in m id measure in
    IsGood m → IsGood n → ((by : Text) → StaysOpen m n by)
    → ((ctot : ℕ) (reg : Text) → reg ≡ id → Passes m key (λ r. may_compete m.clock r && is_due m.clock r.plan) → Q (Sam key ctot reg))
    → row_of n key ≡ Some row → message m n key row ≡ Some x → Q x
take_in_message Q m id measure key row x good later lasts sam found h = by (option_map_or test (row_of m key) false) refl
  where
    test : Row → Bool
    test = may_compete m.clock

    n : State
    n = take_in m id measure

    by : (b : Bool) → option_map_or test (row_of m key) false ≡ b → Q x
    by false t =
        stays_silent Q m n key row x good later.rows_in_order (λ by _. lasts by)
        (sym (row-take_in m id measure key good t) ∙ found) found h
    by true t =
        let old = passing_row m key test t in
        let parts = competes (is_exempt old.0) (is_gone m.clock old.0.plan) old.0.governing old.2 in
        let free : IsFree m.clock m.regs old.0 = free_of m key old.0 good old.1 parts.2 in
        let plans : row.plan ≡ old.0.plan = was_there (record m { regs = put m.regs id measure }) (flights_over test (regulation id measure) m.rows) key row old.0 found old.1 in
        let not_issued : is_issued (row_of m key) ≡ false = ap is_issued old.1 ∙ ap is_some free.not_issued in
        message_cases Q key row.governing (is_issued (row_of m key)) (is_some row.issued) (ctot_before m key) (ctot_of n key row)
        (λ reg governs was now.
        let g : IsGoverned n.clock n.regs row reg = governed_by n key row reg later found governs in
        let due : is_due m.clock old.0.plan ≡ true = (λ i. is_due (sym (clock-take_in m id measure) i) (sym plans i)) ∙ was_due n.clock n.regs row reg g now in
        sam (ctot_of n key row) reg (take_in_governs m n id measure row old.0 reg (regs-take_in m id measure) (free.left parts.0 parts.1) plans g)
        (passes m key old.0 (λ r. may_compete m.clock r && is_due m.clock r.plan) old.1 (and_from _ _ old.2 due)))
        (λ reg governs was now other. absurd (both_ways _ not_issued was))
        (λ was now. absurd (both_ways _ not_issued was)) x h

-- other regulations stay open beside an opened one
pub open_stays : (m : State) (id : Text) (measure : Measure) → measure_of m id ≡ None → (by : Text) → StaysOpen m (take_in m id measure) by
open_stays m id measure absent by a opened =
    let n : State = take_in m id measure in
    elim (is_eq (text_cmp by id)) as (λ t. is_eq (text_cmp by id) ≡ t → (b : Measure) × (measure_of n by ≡ Some b) × TakesTimes (regulation by a) (regulation by b)) [
      | true ↦ λ t. let none : None ≡ Some a = sym absent ∙ ap (λ (q : Text). at_name m.regs q) (sym (same_name by id t)) ∙ opened in absurd (let no : ⊥ = cc in no)
      | false ↦ λ t. (a, ap (λ (es : List (Text × Measure)). at_name es by) (regs-take_in m id measure) ∙ at-put_other by id measure m.regs t ∙ opened, λ plan eto h. h)
    ] refl

open_comes : (m : State) (id loc : Text) (profile : List Period) → IsGood m → Comes m (OpenReg id loc profile) (step m (OpenReg id loc profile))
open_comes m id loc profile good =
    open_cases m (Comes m (OpenReg id loc profile)) (refused_comes m (OpenReg id loc profile)) id loc profile
    (λ absent.
    let measure : Measure = record { loc = loc; profile = profile } in
    let later : IsGood (take_in m id measure) = opened-good m id measure absent good in
    each_message (CanCome m (OpenReg id loc profile)) m (take_in m id measure) later.rows_in_order
    (λ key row x there h. take_in_message (CanCome m (OpenReg id loc profile)) m id measure key row x good later
    (open_stays m id measure absent) (λ ctot reg is passing. (is, passing)) there h))

-- with new rates each regulation stays open
pub rates_stay : (m n : State) (id : Text) (measure : Measure) (profile : List Period) → measure_of m id ≡ Some measure → KeepsSpan profile measure.profile → n.regs ≡ put m.regs id (record measure { profile = profile }) → (by : Text) → StaysOpen m n by
rates_stay m n id measure profile found k regs by a opened =
    let new : Measure = record measure { profile = profile } in
    elim (is_eq (text_cmp by id)) as (λ t. is_eq (text_cmp by id) ≡ t → (b : Measure) × (measure_of n by ≡ Some b) × TakesTimes (regulation by a) (regulation by b)) [
      | true ↦ λ t.
          let here : by ≡ id = same_name by id t in
          let measures : Some a ≡ Some measure = sym opened ∙ ap (λ (q : Text). at_name m.regs q) here ∙ found in
          let same : a ≡ measure = cc in (
            new,
            ap (λ (es : List (Text × Measure)). at_name es by) regs ∙ subst (λ (q : Text). at_name (put m.regs id new) q ≡ Some new) (sym here) (at-put_same id new m.regs),
            λ plan eto h. subst (λ s. subject plan (record { id = by; loc = measure.loc; start = s; end = end_of profile }) ≡ Some eto) (sym k.start)
                (subject-later plan by measure.loc (start_of measure.profile) (end_of measure.profile) (end_of profile) eto k.end (subst (λ (y : Measure). subject plan (regulation by y) ≡ Some eto) same h)),
          )
      | false ↦ λ t. (a, ap (λ (es : List (Text × Measure)). at_name es by) regs ∙ at-put_other by id new m.regs t ∙ opened, λ plan eto h. h)
    ] refl

rates_comes : (m : State) (id : Text) (profile : List Period) → IsGood m → Comes m (Rates id profile) (step m (Rates id profile))
rates_comes m id profile good = rates_cases m (Comes m (Rates id profile)) (refused_comes m (Rates id profile)) id profile keeps takes
  where
    Q : Message → Type 0
    Q = CanCome m (Rates id profile)

    keeps : (measure : Measure) → measure_of m id ≡ Some measure → keeps_span profile measure.profile ≡ true → ends_later profile measure.profile ≡ false
        → Comes m (Rates id profile) (leads (record m { regs = put m.regs id (record measure { profile = profile }) }))
    keeps measure found span same =
        let n : State = record m { regs = put m.regs id (record measure { profile = profile }) } in
        no_message Q m n good good.rows_in_order (rates_stay m n id measure profile found (span_kept profile measure.profile span) refl) (λ key row there. there)

    takes : (measure : Measure) → measure_of m id ≡ Some measure → keeps_span profile measure.profile ≡ true → ends_later profile measure.profile ≡ true
        → Comes m (Rates id profile) (leads (take_in m id (record measure { profile = profile })))
    takes measure found span ends =
        let new : Measure = record measure { profile = profile } in
        let k : KeepsSpan profile measure.profile = span_kept profile measure.profile span in
        let later : IsGood (take_in m id new) = extended-good m id measure profile found k good in
        let extended : extends m id profile ≡ true = ap (λ (w : Option Measure). option_map_or (λ (y : Measure). ends_later profile y.profile) w false) found ∙ ends in
        each_message Q m (take_in m id new) later.rows_in_order
        (λ key row x there h. take_in_message Q m id new key row x good later (rates_stay m (take_in m id new) id measure profile found k (regs-take_in m id new))
        (λ ctot reg is passing. (is, extended, passing)) there h)

-- what a closed regulation did not govern keeps its row, and its regulation
freed_row : (id : Text) (w : Option Row) → option_map_or (is_governed_by id) w false ≡ false → option_map (λ (r : Row). ungoverned_if (is_governed_by id r) r) w ≡ w
freed_row id None h = refl
freed_row id (Some row) h = ap (λ b. Some (ungoverned_if b row)) h

pub row-closed : (m : State) (id : Text) (measure : Measure) (key : Text) → IsGood m → option_map_or (is_governed_by id) (row_of m key) false ≡ false
    → row_of (enter_all (state_without_regulation m id) (flights_over (is_governed_by id) (regulation id measure) m.rows)) key ≡ row_of m key
row-closed m id measure key good t =
    row-enter_all (state_without_regulation m id) key (flights_over (is_governed_by id) (regulation id measure) m.rows) (not_taken m key (is_governed_by id) (regulation id measure) good t)
    ∙ at-map (λ k r. ungoverned_if (is_governed_by id r) r) key m.rows ∙ freed_row id (row_of m key) t

close_stays : (m n : State) (id : Text) (row : Row) → n.regs ≡ without m.regs id → is_governed_by id row ≡ false → (by : Text) → row.governing ≡ Some by → StaysOpen m n by
close_stays m n id row regs not_its by governs a opened =
    let unlike : same_text id by ≡ false = ap (λ (w : Option Text). option_map_or (same_text id) w false) (sym governs) ∙ not_its in
    (a, ap (λ (es : List (Text × Measure)). at_name es by) regs ∙ at-without_other by id m.regs (apart id by unlike) ∙ opened, λ plan eto h. h)

pub freed_plan : (b : Bool) (row : Row) → (ungoverned_if b row).plan ≡ row.plan
freed_plan true row = refl
freed_plan false row = refl

close_message : (m : State) (id : Text) (measure : Measure) (key : Text) (row : Row) (x : Message) → let cs : List Comp = flights_over (is_governed_by id) (regulation id measure) m.rows in let n : State = enter_all (state_without_regulation m id) cs in
    IsGood m → IsGood n → row_of n key ≡ Some row → message m n key row ≡ Some x → CanCome m (CloseReg id) x
close_message m id measure key row x good later found h = by (option_map_or test (row_of m key) false) refl
  where
    s : State
    s = state_without_regulation m id

    test : Row → Bool
    test = is_governed_by id

    cs : List Comp
    cs = flights_over test (regulation id measure) m.rows

    n : State
    n = enter_all s cs

    Q : Message → Type 0
    Q = CanCome m (CloseReg id)

    free : Row → Row
    free r = ungoverned_if (is_governed_by id r) r

    closed_row : row_of s key ≡ option_map free (row_of m key)
    closed_row = at-map (λ k r. free r) key m.rows

    by : (b : Bool) → option_map_or test (row_of m key) false ≡ b → Q x
    by false t =
        let same : row_of n key ≡ row_of m key = row-closed m id measure key good t in
        let before : row_of m key ≡ Some row = sym same ∙ found in
        let not_its : is_governed_by id row ≡ false = sym (ap (λ (w : Option Row). option_map_or test w false) before) ∙ t in
        stays_silent Q m n key row x good later.rows_in_order (close_stays m n id row (regs-enter_all s cs) not_its) before found h
    by true t =
        let old = passing_row m key test t in
        let g : IsGoverned m.clock m.regs old.0 id = governed_by m key old.0 id good old.1 (governed_name id old.0.governing old.2) in
        let plans : row.plan ≡ old.0.plan = was_there s cs key row (free old.0) found (closed_row ∙ ap (option_map free) old.1) ∙ freed_plan (is_governed_by id old.0) old.0 in
        message_cases Q key row.governing (is_issued (row_of m key)) (is_some row.issued) (ctot_before m key) (ctot_of n key row)
        (λ reg governs was now.
        let r : IsGoverned n.clock n.regs row reg = governed_by n key row reg later found governs in
        let due : is_due m.clock old.0.plan ≡ true = (λ i. is_due (sym (clock-enter_all s cs) i) (sym plans i)) ∙ was_due n.clock n.regs row reg r now in
        both_ways _ (not_due m.clock m.regs old.0 id g (sym (ap is_issued old.1) ∙ was)) due)
        (λ reg governs was now other.
        let r : IsGoverned n.clock n.regs row reg = governed_by n key row reg later found governs in (
          λ its.
              let gone : None ≡ Some r.measure = sym (at-without_same id m.regs good.regs_in_order) ∙ ap (λ (es : List (Text × Measure)). at_name es id) (sym (regs-enter_all s cs)) ∙ ap (measure_of n) (sym its) ∙ r.is_open in
              let no : ⊥ = cc in no,
          t,
        ))
        (λ was now. t) x h

close_comes : (m : State) (id : Text) → IsGood m → Comes m (CloseReg id) (step m (CloseReg id))
close_comes m id good =
    close_cases m (Comes m (CloseReg id)) (refused_comes m (CloseReg id)) id
    (λ measure found.
    let later = closed-good m id measure found good in
    each_message (CanCome m (CloseReg id)) m
    (enter_all (state_without_regulation m id) (flights_over (is_governed_by id) (regulation id measure) m.rows)) later.rows_in_order
    (λ key row x there h. close_message m id measure key row x good later there h))

-- the messages of every call are of those that can come of it
pub call_kinds : (m : State) (call : Call) → IsGood m → All (CanCome m call) (messages_in (reply m call))
call_kinds m (File plan) good = file_comes m plan good
call_kinds m (Amend plan) good = amend_comes m plan good
call_kinds m (Cancel key) good = cancel_comes m key good
call_kinds m (Revise key) good = revise_comes m key good
call_kinds m (Exempt key) good = exempt_comes m key good
call_kinds m (OpenReg id loc profile) good = open_comes m id loc profile good
call_kinds m (CloseReg id) good = close_comes m id good
call_kinds m (Rates id profile) good = rates_comes m id profile good
call_kinds m (Tick at) good = tick_comes m at good
call_kinds m (Show key) good = show_cases m (Comes m (Show key)) (refused_comes m (Show key)) key (unchanged (CanCome m (Show key)) m good)
call_kinds m (ListOf id) good = list_cases m (Comes m (ListOf id)) (refused_comes m (ListOf id)) id (unchanged (CanCome m (ListOf id)) m good)
call_kinds m (Swap key other) good = swap_comes m key other good

-- where nothing can come, nothing comes
nothing : (P : Message → Type 0) → ((x : Message) → P x → ⊥) → (xs : List Message) → All P xs → xs ≡ []
nothing P never [] h = refl
nothing P never (x ∷ xs) h = absurd (never x (h 0 x (omega arith)))

rates_nothing : (m : State) (id : Text) (profile : List Period) → extends m id profile ≡ false → (x : Message) → CanCome m (Rates id profile) x → ⊥
rates_nothing m id profile same (Sam key ctot reg) h = both_ways (extends m id profile) same h.1
rates_nothing m id profile same (Srm key ctot reg) h = h
rates_nothing m id profile same (Slc key) h = h

pub call_silent : (m : State) (call : Call) → IsGood m → is_silent m call ≡ true → messages_in (reply m call) ≡ []
call_silent m (Cancel key) good is = nothing (CanCome m (Cancel key)) (λ x h. h) (messages_in (reply m (Cancel key))) (call_kinds m (Cancel key) good)
call_silent m (Rates id profile) good is = nothing (CanCome m (Rates id profile)) (rates_nothing m id profile (not-true _ is)) (messages_in (reply m (Rates id profile))) (call_kinds m (Rates id profile) good)
call_silent m (Show key) good is = nothing (CanCome m (Show key)) (λ x h. h) (messages_in (reply m (Show key))) (call_kinds m (Show key) good)
call_silent m (ListOf id) good is = nothing (CanCome m (ListOf id)) (λ x h. h) (messages_in (reply m (ListOf id))) (call_kinds m (ListOf id) good)
call_silent m call good is = cc

pub refused_silent : (m : State) (call : Call) (r : Refusal) → step m call ≡ refused r → messages_in (reply m call) ≡ []
refused_silent m call r h = ap (λ s. messages_in (reply_of m call s)) h
