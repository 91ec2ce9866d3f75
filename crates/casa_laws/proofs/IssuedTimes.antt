-- what stays of a flight at the calls that are not its own, and what an opened regulation and the clock give
use Rattle.std.proofs.Common.{◌≡◌, ℕ, List, Bool, true, false, refl, sym, ap, ◌∙◌, ◌⊎◌, inl, inr, Option, None, Some, is_some, ◌&&◌}
use Rattle.std.specs.Option.{option_map, option_map_or, option_and_then}
use Rattle.std.proofs.lemmas.Bool.{both_ways, or_parts, false_from_ne_true}
use Rattle.casa_grid.specs.declared.period.Period.{Period}
use Rattle.casa_grid.specs.Profile.{end_of}
use Rattle.casa_grid.specs.Slots.{slots}
use Rattle.casa_grid.specs.TimeOver.{cto}
use Rattle.casa_flight.specs.declared.call.Call.{Call}
use Rattle.casa_flight.specs.declared.call.Call.TheVariants.{File, Amend, Cancel, Revise, Exempt, OpenReg, CloseReg, Rates, Tick, Show, List as ListOf, Swap}
use Rattle.casa_flight.specs.declared.call.Refusal.{Refusal}
use Rattle.casa_filing.specs.declared.regulation.Measure.{Measure}
use Rattle.casa_flight.specs.declared.row.Row.{Row}
use Rattle.casa_flight.specs.declared.state.State.{State}
use Rattle.casa_filing.specs.Text.{Text, same_text, put}
use Rattle.casa_filing.specs.Subject.{regulation, is_due, is_gone}
use Rattle.casa_flight.specs.State.{row_of, with_row, is_exempt, is_governed_by, ungoverned}
use Rattle.casa_flight.specs.Listing.{Listing, listing, place_of, cto_of, governing_list}
use Rattle.casa_flight.specs.Entry.{situation, row_after_entry, is_to_issue, issued_in, issue_if, issue_due}
use Rattle.casa_flight.specs.Steps.{Step, refused, step, new_row, flights_over, may_compete, take_in, ends_later, with_issued_time, after, next}
use Rattle.casa_flight.specs.Good.{IsGood, IsFree, IsGoverned}
use Rattle.casa_flight.specs.IssuedTimes.{may_free, may_serve, IsTakenIn, BecomesIssued}
use Rattle.casa_filing.proofs.Entries.{named, apart, at-put_other, at-without_other, at-map}
use Rattle.casa_laws.proofs.Outcomes.{set_row, file_cases, open_cases, close_cases, rates_cases, tick_cases, show_cases, list_cases, swap_cases, flight_written_by, one_row}
use Rattle.casa_laws.proofs.GoodTick.{span_kept}
use Rattle.casa_laws.proofs.GoodRegs.{opened-good, extended-good}
use Rattle.casa_laws.proofs.ChangeMessages.{governed_by, free_of}
use Rattle.casa_laws.proofs.EnterAll.{rest-enter_all}
use Rattle.casa_laws.proofs.CallMessages.{issued_if_due}
use Rattle.casa_laws.proofs.RegMessages.{to_issue_parts, issued_at, competes, regs-take_in, clock-take_in, row-take_in, take_in_governs, row-closed}

pub refused_stays : (m : State) (call : Call) (r : Refusal) → step m call ≡ refused r → next m call ≡ m
refused_stays m call r h = ap (after m) h

-- a step leaves the row as it is
abbrev Stays : State → Step → Text → Row → Type 0
Stays m s key row = row_of (after m s) key ≡ Some row

-- where the row of another flight is written
put_stays : (m : State) (name key : Text) (new row : Row) → same_text name key ≡ false → row_of m key ≡ Some row → row_of (with_row m name new) key ≡ Some row
put_stays m name key new row other found = at-put_other key name new m.rows (apart name key other) ∙ found

-- where the row of another flight is written or removed
set_stays : (m : State) (name key : Text) (now : Option Row) (row : Row) → same_text name key ≡ false → row_of m key ≡ Some row → row_of (set_row m name now) key ≡ Some row
set_stays m name key None row other found = at-without_other key name m.rows (apart name key other) ∙ found
set_stays m name key (Some new) row other found = put_stays m name key new row other found

-- what stays at the calls that neither free the flight nor serve flights that wait
pub others_stay : (m : State) (call : Call) (key : Text) (row : Row) → IsGood m → row_of m key ≡ Some row → may_free call key row ≡ false → may_serve m call ≡ false → row_of (next m call) key ≡ Some row
others_stay m call key row good found = by call
  where
    P : Step → Type 0
    P s = Stays m s key row

    refusal : (r : Refusal) → P (refused r)
    refusal r = found

    own : (call : Call) (name : Text) → flight_written_by call ≡ Some name → same_text name key ≡ false → P (step m call)
    own call name is other = one_row m P refusal found call name is (λ now. set_stays m name key now row other found)

    by : (call : Call) → may_free call key row ≡ false → may_serve m call ≡ false → P (step m call)
    by (File plan) free serves =
        file_cases m P refusal plan
        (λ absent. put_stays m plan.key key (row_after_entry (situation m) plan.key (new_row plan)) row
        (false_from_ne_true _ (λ same. let none : None ≡ Some row = sym absent ∙ ap (row_of m) (named plan.key key same) ∙ found in cc)) found)
    by (Amend plan) free serves = own (Amend plan) plan.key refl free
    by (Cancel name) free serves = own (Cancel name) name refl free
    by (Revise name) free serves = own (Revise name) name refl free
    by (Exempt name) free serves = own (Exempt name) name refl free
    by (OpenReg id loc profile) free serves = cc
    by (CloseReg id) free serves =
        close_cases m P refusal id
        (λ measure opened. row-closed m id measure key good (ap (λ (w : Option Row). option_map_or (is_governed_by id) w false) found ∙ free) ∙ found)
    by (Rates id profile) free serves =
        rates_cases m P refusal id profile (λ measure opened span same. found)
        (λ measure opened span later. absurd (both_ways _ serves
        (ap (λ (w : Option Measure). option_map_or (λ (y : Measure). ends_later profile y.profile) w false) opened ∙ later)))
    by (Tick at) free serves = cc
    by (Show name) free serves = show_cases m P refusal name found
    by (ListOf id) free serves = list_cases m P refusal id found
    by (Swap one other) free serves =
        let apart = or_parts (same_text one key) (same_text other key) free in
        swap_cases m P refusal one other
        (λ old mate cto time can.
        put_stays (with_row m one (with_issued_time old time)) other key (with_issued_time mate cto) row apart.1
        (put_stays m one key (with_issued_time old time) row apart.0 found))

-- the flight is there afterwards, as it was or so
abbrev IsThere : State → Text → Row → (Row → Type 0) → Type 0
IsThere n key old Becomes = (new : Row) × (row_of n key ≡ Some new) × ((new ≡ old) ⊎ Becomes new)

there_as : (n : State) (key : Text) (row : Row) (Becomes : Row → Type 0) → row_of n key ≡ Some row → IsThere n key row Becomes
there_as n key row Becomes found = (row, found, inl refl)

-- what a regulation that opens or ends later makes of a flight
taken_in : (m n : State) (id key : Text) (measure : Measure) (row new : Row) → IsGood m → IsGood n → n.regs ≡ put m.regs id measure → n.clock ≡ m.clock → row_of m key ≡ Some row → may_compete m.clock row ≡ true
    → row_of n key ≡ Some new → ungoverned new ≡ ungoverned row → (new ≡ row) ⊎ IsTakenIn m.clock id row new
taken_in m n id key measure row new good later regs clocks found waits there rest = by new.governing refl
  where
    parts : (is_exempt row ≡ false) × (is_gone m.clock row.plan ≡ false) × (row.governing ≡ None)
    parts = competes (is_exempt row) (is_gone m.clock row.plan) row.governing waits

    free : IsFree m.clock m.regs row
    free = free_of m key row good found parts.2

    plans : new.plan ≡ row.plan
    plans = ap (λ (r : Row). r.plan) rest

    marks : new.marked ≡ row.marked
    marks = ap (λ (r : Row). r.marked) rest

    by : (g : Option Text) → new.governing ≡ g → (new ≡ row) ⊎ IsTakenIn m.clock id row new
    by None governs =
        let nothing : new.governing ≡ row.governing = governs ∙ sym parts.2 in
        let issues : new.issued ≡ row.issued = (free_of n key new later there governs).not_issued ∙ sym free.not_issued in
        inl (λ i. record { plan = plans i; marked = marks i; governing = nothing i; issued = issues i })
    by (Some reg) governs =
        let g : IsGoverned n.clock n.regs new reg = governed_by n key new reg later there governs in
        let its : new.governing ≡ Some id = governs ∙ ap (λ (q : Text). Some q) (take_in_governs m n id measure new row reg regs (free.left parts.0 parts.1) plans g) in
        inr (record {
          was_free = parts.2;
          not_issued = free.not_issued;
          now = λ i. record { plan = plans i; marked = marks i; governing = its i; issued = new.issued };
          issued_if_due = issued_if_due n.clock n.regs new reg g ∙ (λ i. is_due (clocks i) (plans i));
        })

take_in_if : (m : State) (id key : Text) (measure : Measure) (row : Row) (b : Bool) → let n : State = take_in m id measure in
    IsGood m → IsGood n → row_of m key ≡ Some row → may_compete m.clock row ≡ b → IsThere n key row (IsTakenIn m.clock id row)
take_in_if m id key measure row false good later found waits =
    there_as (take_in m id measure) key row (IsTakenIn m.clock id row)
    (row-take_in m id measure key good (ap (λ (w : Option Row). option_map_or (may_compete m.clock) w false) found ∙ waits) ∙ found)
take_in_if m id key measure row true good later found waits = by (row_of n key) refl
  where
    n : State
    n = take_in m id measure

    rest : option_map ungoverned (row_of n key) ≡ Some (ungoverned row)
    rest = rest-enter_all (record m { regs = put m.regs id measure }) key (flights_over (may_compete m.clock) (regulation id measure) m.rows) ∙ ap (option_map ungoverned) found

    by : (w : Option Row) → row_of n key ≡ w → IsThere n key row (IsTakenIn m.clock id row)
    by None there = let none : None ≡ Some (ungoverned row) = sym (ap (option_map ungoverned) there) ∙ rest in cc
    by (Some new) there =
        let both : Some (ungoverned new) ≡ Some (ungoverned row) = sym (ap (option_map ungoverned) there) ∙ rest in
        let same : ungoverned new ≡ ungoverned row = cc in
        (new, there, taken_in m n id key measure row new good later (regs-take_in m id measure) (clock-take_in m id measure) found waits there same)

-- what an opened regulation makes of a flight
pub opened : (m : State) (id loc key : Text) (profile : List Period) (row : Row) → IsGood m → row_of m key ≡ Some row → IsThere (next m (OpenReg id loc profile)) key row (IsTakenIn m.clock id row)
opened m id loc key profile row good found =
    open_cases m (λ s. IsThere (after m s) key row (IsTakenIn m.clock id row)) (λ r. there_as m key row (IsTakenIn m.clock id row) found) id loc profile
    (λ absent. take_in_if m id key (record { loc = loc; profile = profile }) row (may_compete m.clock row) good (opened-good m id (record { loc = loc; profile = profile }) absent good) found refl)

-- and a later end
pub extended : (m : State) (id key : Text) (profile : List Period) (row : Row) → IsGood m → row_of m key ≡ Some row → IsThere (next m (Rates id profile)) key row (IsTakenIn m.clock id row)
extended m id key profile row good found =
    rates_cases m (λ s. IsThere (after m s) key row (IsTakenIn m.clock id row)) (λ r. there_as m key row (IsTakenIn m.clock id row) found) id profile
    (λ measure opened span same. there_as (record m { regs = put m.regs id (record measure { profile = profile }) }) key row (IsTakenIn m.clock id row) found)
    (λ measure opened span later.
    take_in_if m id key (record measure { profile = profile }) row (may_compete m.clock row) good
    (extended-good m id measure profile opened (span_kept profile measure.profile span) good) found refl)

-- what the clock makes of a flight
abbrev BecomesDue : State → Text → Row → Row → Type 0
BecomesDue m key old new =
    (time : ℕ) × BecomesIssued time old new × (option_and_then (λ (l : Listing). cto_of l key) (governing_list m old) ≡ Some time)

to_issue_governed : (g : Option Text) (b : Bool) → (is_some g && b) ≡ true → (id : Text) × (g ≡ Some id)
to_issue_governed (Some id) b h = (id, refl)
to_issue_governed None b h = cc

becomes_due : (m : State) (at : ℕ) (key : Text) (row : Row) → IsGood m → row_of m key ≡ Some row → is_to_issue at row ≡ true → BecomesDue m key row (issued_in m key row)
becomes_due m at key row good found due =
    let waits : row.issued ≡ None = to_issue_parts row.governing row.issued (is_due at row.plan) due in
    let by = to_issue_governed row.governing _ due in
    let g : IsGoverned m.clock m.regs row by.0 = governed_by m key row by.0 good found by.1 in
    let time : (issued_in m key row).issued ≡ Some (cto (slots g.measure.profile) (end_of g.measure.profile) g.eto (place_of (listing m.rows by.0 g.measure) key)) =
    issued_at m key by.0 row g.measure g.eto good.rows_in_order found by.1 waits g.is_open g.is_subject in (
      cto (slots g.measure.profile) (end_of g.measure.profile) g.eto (place_of (listing m.rows by.0 g.measure) key),
      record { governed = ap is_some by.1; not_issued = waits; now = λ i. record row { issued = time i } },
      time,
    )

tick_if : (m : State) (at : ℕ) (key : Text) (row : Row) (b : Bool) → let t : State = record m { clock = at } in
    IsGood m → row_of m key ≡ Some row → is_to_issue at row ≡ b → row_of (issue_due t) key ≡ Some (issue_if b t key row) → IsThere (issue_due t) key row (BecomesDue m key row)
tick_if m at key row false good found due there = there_as (issue_due (record m { clock = at })) key row (BecomesDue m key row) there
tick_if m at key row true good found due there = (issued_in m key row, there, inr (becomes_due m at key row good found due))

pub ticked : (m : State) (at : ℕ) (key : Text) (row : Row) → IsGood m → row_of m key ≡ Some row → IsThere (next m (Tick at)) key row (BecomesDue m key row)
ticked m at key row good found =
    let new : Text → Row → Row = λ k r. issue_if (is_to_issue at r) (record m { clock = at }) k r in
    tick_cases m (λ s. IsThere (after m s) key row (BecomesDue m key row)) (λ r. there_as m key row (BecomesDue m key row) found) at
    (λ forward. tick_if m at key row (is_to_issue at row) good found refl (at-map new key m.rows ∙ ap (option_map (new key)) found))

-- so issued flights stay, and governed ones but for their issue
as_it_was : (n : State) (key : Text) (old new : Row) (Becomes : Row → Type 0) → row_of n key ≡ Some new → (Becomes new → ⊥) → (new ≡ old) ⊎ Becomes new → row_of n key ≡ Some old
as_it_was n key old new Becomes there not (inl same) = there ∙ ap (λ (r : Row). Some r) same
as_it_was n key old new Becomes there not (inr becomes) = absurd (not becomes)

pub issued_stays : (m : State) (call : Call) (key : Text) (row : Row) → IsGood m → row_of m key ≡ Some row → may_free call key row ≡ false → is_some row.issued ≡ true → row_of (next m call) key ≡ Some row
issued_stays m (OpenReg id loc profile) key row good found free issued =
    let s = opened m id loc key profile row good found in
    as_it_was (next m (OpenReg id loc profile)) key row s.0 (IsTakenIn m.clock id row) s.1 (λ t. both_ways (is_some row.issued) (ap is_some t.not_issued) issued) s.2
issued_stays m (Rates id profile) key row good found free issued =
    let s = extended m id key profile row good found in
    as_it_was (next m (Rates id profile)) key row s.0 (IsTakenIn m.clock id row) s.1 (λ t. both_ways (is_some row.issued) (ap is_some t.not_issued) issued) s.2
issued_stays m (Tick at) key row good found free issued =
    let s = ticked m at key row good found in
    as_it_was (next m (Tick at)) key row s.0 (BecomesDue m key row) s.1 (λ t. both_ways (is_some row.issued) (ap is_some t.1.not_issued) issued) s.2
issued_stays m call key row good found free issued = others_stay m call key row good found free refl

abbrev IsThereBut : State → Text → Row → Type 0
IsThereBut n key row = (issued : Option ℕ) × (row_of n key ≡ Some (record row { issued = issued }))

but_issued : (m n : State) (key : Text) (old new : Row) → row_of n key ≡ Some new → (new ≡ old) ⊎ BecomesDue m key old new → IsThereBut n key old
but_issued m n key old new there (inl same) = (old.issued, there ∙ ap (λ (r : Row). Some r) same)
but_issued m n key old new there (inr due) = (Some due.0, there ∙ ap (λ (r : Row). Some r) due.1.now)

pub governed_stays : (m : State) (call : Call) (key : Text) (row : Row) → IsGood m → row_of m key ≡ Some row → may_free call key row ≡ false → is_some row.governing ≡ true → IsThereBut (next m call) key row
governed_stays m (OpenReg id loc profile) key row good found free governed =
    let s = opened m id loc key profile row good found in
    (row.issued, as_it_was (next m (OpenReg id loc profile)) key row s.0 (IsTakenIn m.clock id row) s.1 (λ t. both_ways (is_some row.governing) (ap is_some t.was_free) governed) s.2)
governed_stays m (Rates id profile) key row good found free governed =
    let s = extended m id key profile row good found in
    (row.issued, as_it_was (next m (Rates id profile)) key row s.0 (IsTakenIn m.clock id row) s.1 (λ t. both_ways (is_some row.governing) (ap is_some t.was_free) governed) s.2)
governed_stays m (Tick at) key row good found free governed =
    let s = ticked m at key row good found in
    but_issued m (next m (Tick at)) key row s.0 s.1 s.2
governed_stays m call key row good found free governed = (row.issued, others_stay m call key row good found free refl)
