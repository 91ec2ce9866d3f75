-- the outcomes of each call: what holds of every refusal, and of each state to which the call can lead, holds of its step
use Rattle.std.proofs.Common.{◌≡◌, ℕ, List, length, Bool, true, false, refl, subst, Option, None, Some, nat_lt, nat_le}
use Rattle.casa_grid.specs.declared.period.Period.{Period}
use Rattle.casa_filing.specs.declared.regulation.Measure.{Measure}
use Rattle.casa_filing.specs.Text.{Text, put, without}
use Rattle.casa_filing.specs.FlightPlan.{FlightPlan}
use Rattle.casa_filing.specs.Subject.{regulation}
use Rattle.casa_flight.specs.declared.call.Call.{Call}
use Rattle.casa_flight.specs.declared.call.Call.TheVariants.{File, Amend, Cancel, Revise, Exempt, OpenReg, CloseReg, Rates, Tick, Show, List as ListOf, Swap}
use Rattle.casa_flight.specs.declared.call.Refusal.{Refusal}
use Rattle.casa_flight.specs.declared.call.Refusal.TheVariants.{Duplicate, NoFlight, Late, AlreadyExempt, DuplicateRegulation, NoRegulation, TooManyRegulations, SpanChanged, BackInTime, NotIssued, OtherRegulation, TooEarly}
use Rattle.casa_flight.specs.declared.row.Row.{Row}
use Rattle.casa_flight.specs.declared.state.State.{State}
use Rattle.casa_flight.specs.State.{row_of, measure_of, with_row, is_exempt, is_governed_by, ungoverned}
use Rattle.casa_flight.specs.Listing.{governing_list}
use Rattle.casa_flight.specs.Entry.{situation, row_after_entry, enter, enter_all, issue_due}
use Rattle.casa_flight.specs.Steps.{Step, refused, leads, step, most_regulations, new_row, file, amend, cancel, is_revised, state_if, revise, exempt, exempt_if, flights_over, take_in, open_regulation, state_without_regulation, close_regulation, keeps_span, ends_later, rates, rates_if, tick, show, list, are_too_early, Exchange, with_exchange, is_shared, swap, swap_issued, swap_if}
use Rattle.casa_laws.proofs.Kept.{set_at}

-- two issued flights of one regulation, for each of which the other's time is not too early
pub record CanExchange (m : State) (x : Exchange) : Type 0 where
  pub here : row_of m x.key ≡ Some x.row
  pub there : row_of m x.other ≡ Some x.mate
  pub issued : x.row.issued ≡ Some x.cto
  pub mate_issued : x.mate.issued ≡ Some x.time
  pub shared : is_shared x.row x.mate ≡ true
  pub late_enough : are_too_early m.clock (governing_list m x.row) (governing_list m x.mate) x ≡ false

-- the row of an exempted flight
abbrev pub exempted : Row → Row
exempted row = record (ungoverned row) { marked = true }

-- the state with this row under the key, or with none
abbrev pub set_row : State → Text → Option Row → State
set_row m key now = record m { rows = set_at m.rows key now }

module _ (m : State) (P : Step → Type 0) (refusal : (r : Refusal) → P (refused r)) where
  -- a filed flight was not there, and enters
  pub file_cases : (plan : FlightPlan) → (row_of m plan.key ≡ None → P (leads (enter m plan.key (new_row plan)))) → P (step m (File plan))
  file_cases plan enters = by (row_of m plan.key) refl (nat_lt plan.eobt m.clock)
    where
      by : (w : Option Row) → row_of m plan.key ≡ w → (late : Bool) → P (file m plan w late)
      by (Some row) found late = refusal Duplicate
      by None found true = refusal Late
      by None found false = enters found

  -- an amended flight enters with its new plan
  pub amend_cases : (plan : FlightPlan) → ((row : Row) → row_of m plan.key ≡ Some row → P (leads (enter m plan.key (record (ungoverned row) { plan = plan }))))
      → P (step m (Amend plan))
  amend_cases plan enters = by (row_of m plan.key) refl (nat_lt plan.eobt m.clock)
    where
      by : (w : Option Row) → row_of m plan.key ≡ w → (late : Bool) → P (amend m plan w late)
      by None found late = refusal NoFlight
      by (Some row) found true = refusal Late
      by (Some row) found false = enters row found

  -- a cancelled flight is removed
  pub cancel_cases : (key : Text) → ((row : Row) → row_of m key ≡ Some row → P (leads (record m { rows = without m.rows key }))) → P (step m (Cancel key))
  cancel_cases key leaves = by (row_of m key) refl
    where
      by : (w : Option Row) → row_of m key ≡ w → P (cancel m key w)
      by None found = refusal NoFlight
      by (Some row) found = leaves row found

  -- a revised flight stays as it is, or enters anew
  pub revise_cases : (key : Text) → let new : Row → Row = λ row. row_after_entry (situation m) key (ungoverned row) in
      ((row : Row) → row_of m key ≡ Some row → is_revised m key row (new row) ≡ false → P (leads m))
      → ((row : Row) → row_of m key ≡ Some row → is_revised m key row (new row) ≡ true → P (leads (with_row m key (new row))))
      → P (step m (Revise key))
  revise_cases key stays enters = by (row_of m key) refl
    where
      to : (row : Row) → row_of m key ≡ Some row → let new : Row = row_after_entry (situation m) key (ungoverned row) in
          (b : Bool) → is_revised m key row new ≡ b → P (leads (state_if b (with_row m key new) m))
      to row found true is = enters row found is
      to row found false is = stays row found is

      by : (w : Option Row) → row_of m key ≡ w → P (revise m key w)
      by None found = refusal NoFlight
      by (Some row) found = to row found (is_revised m key row (row_after_entry (situation m) key (ungoverned row))) refl

  -- an exempted flight was not exempt, and is governed by nothing
  pub exempt_cases : (key : Text) → ((row : Row) → row_of m key ≡ Some row → is_exempt row ≡ false → P (leads (with_row m key (exempted row))))
      → P (step m (Exempt key))
  exempt_cases key marked = by (row_of m key) refl
    where
      to : (row : Row) → row_of m key ≡ Some row → (b : Bool) → is_exempt row ≡ b → P (exempt_if m key row b)
      to row found true is = refusal AlreadyExempt
      to row found false is = marked row found is

      by : (w : Option Row) → row_of m key ≡ w → P (exempt m key w)
      by None found = refusal NoFlight
      by (Some row) found = to row found (is_exempt row) refl

  -- an opened regulation was not open, and takes flights in
  pub open_cases : (id loc : Text) (profile : List Period) → (measure_of m id ≡ None → P (leads (take_in m id (record { loc = loc; profile = profile }))))
      → P (step m (OpenReg id loc profile))
  open_cases id loc profile takes = by (measure_of m id) refl (nat_le most_regulations (length m.regs))
    where
      by : (w : Option Measure) → measure_of m id ≡ w → (full : Bool) → P (open_regulation m id (record { loc = loc; profile = profile }) w full)
      by (Some old) found full = refusal DuplicateRegulation
      by None found true = refusal TooManyRegulations
      by None found false = takes found

  -- a closed regulation was open, and frees what it governs
  pub close_cases : (id : Text)
      → ((measure : Measure) → measure_of m id ≡ Some measure
      → P (leads (enter_all (state_without_regulation m id) (flights_over (is_governed_by id) (regulation id measure) m.rows))))
      → P (step m (CloseReg id))
  close_cases id frees = by (measure_of m id) refl
    where
      by : (w : Option Measure) → measure_of m id ≡ w → P (close_regulation m id w)
      by None found = refusal NoRegulation
      by (Some measure) found = frees measure found

  -- new rates keep the span, or end later and take flights in
  pub rates_cases : (id : Text) (profile : List Period) → let new : Measure → Measure = λ measure. record measure { profile = profile } in
      ((measure : Measure) → measure_of m id ≡ Some measure → keeps_span profile measure.profile ≡ true → ends_later profile measure.profile ≡ false
      → P (leads (record m { regs = put m.regs id (new measure) })))
      → ((measure : Measure) → measure_of m id ≡ Some measure → keeps_span profile measure.profile ≡ true → ends_later profile measure.profile ≡ true
      → P (leads (take_in m id (new measure))))
      → P (step m (Rates id profile))
  rates_cases id profile keeps takes = by (measure_of m id) refl
    where
      to : (measure : Measure) → measure_of m id ≡ Some measure → (b : Bool) → keeps_span profile measure.profile ≡ b
          → (later : Bool) → ends_later profile measure.profile ≡ later → P (rates_if m id (record measure { profile = profile }) b later)
      to measure found false span later ends = refusal SpanChanged
      to measure found true span false ends = keeps measure found span ends
      to measure found true span true ends = takes measure found span ends

      by : (w : Option Measure) → measure_of m id ≡ w → P (rates m id profile w)
      by None found = refusal NoRegulation
      by (Some measure) found = to measure found (keeps_span profile measure.profile) refl (ends_later profile measure.profile) refl

  -- the clock does not go back, and issues what is due
  pub tick_cases : (at : ℕ) → (nat_lt at m.clock ≡ false → P (leads (issue_due (record m { clock = at })))) → P (step m (Tick at))
  tick_cases at issues = by (nat_lt at m.clock) refl
    where
      by : (back : Bool) → nat_lt at m.clock ≡ back → P (tick m at back)
      by true is = refusal BackInTime
      by false is = issues is

  -- who looks changes nothing
  pub show_cases : (key : Text) → P (leads m) → P (step m (Show key))
  show_cases key stays = by (row_of m key)
    where
      by : (w : Option Row) → P (show m w)
      by None = refusal NoFlight
      by (Some row) = stays

  pub list_cases : (id : Text) → P (leads m) → P (step m (ListOf id))
  list_cases id stays = by (measure_of m id)
    where
      by : (w : Option Measure) → P (list m w)
      by None = refusal NoRegulation
      by (Some measure) = stays

  -- two flights that can exchange their times do so
  pub swap_cases : (key other : Text)
      → ((row mate : Row) (cto time : ℕ) → let x : Exchange = record { key = key; row = row; cto = cto; other = other; mate = mate; time = time } in
      CanExchange m x → P (leads (with_exchange m x)))
      → P (step m (Swap key other))
  swap_cases key other exchanges = by (row_of m key) refl (row_of m other) refl
    where
      out : (row mate : Row) (cto time : ℕ) → row_of m key ≡ Some row → row_of m other ≡ Some mate → row.issued ≡ Some cto → mate.issued ≡ Some time
          → let x : Exchange = record { key = key; row = row; cto = cto; other = other; mate = mate; time = time } in
          (s : Bool) → is_shared row mate ≡ s → (t : Bool) → are_too_early m.clock (governing_list m row) (governing_list m mate) x ≡ t
          → P (swap_if m x s t)
      out row mate cto time p q f g false s t u = refusal OtherRegulation
      out row mate cto time p q f g true s true u = refusal TooEarly
      out row mate cto time p q f g true s false u =
          exchanges row mate cto time (record { here = p; there = q; issued = f; mate_issued = g; shared = s; late_enough = u })

      to : (row mate : Row) → row_of m key ≡ Some row → row_of m other ≡ Some mate → (i : Option ℕ) → row.issued ≡ i → (j : Option ℕ) → mate.issued ≡ j
          → P (swap_issued m key row other mate i j)
      to row mate p q None f j g = refusal NotIssued
      to row mate p q (Some cto) f None g = refusal NotIssued
      to row mate p q (Some cto) f (Some time) g =
          let x : Exchange = record { key = key; row = row; cto = cto; other = other; mate = mate; time = time } in
          out row mate cto time p q f g (is_shared row mate) refl (are_too_early m.clock (governing_list m row) (governing_list m mate) x) refl

      by : (v : Option Row) → row_of m key ≡ v → (w : Option Row) → row_of m other ≡ w → P (swap m key other v w)
      by None p w q = refusal NoFlight
      by (Some row) p None q = refusal NoFlight
      by (Some row) p (Some mate) q = to row mate p q row.issued refl mate.issued refl

-- the flight of which a call may write or remove the row, and nothing else
abbrev pub flight_written_by : Call → Option Text
flight_written_by (File plan) = Some plan.key
flight_written_by (Amend plan) = Some plan.key
flight_written_by (Cancel key) = Some key
flight_written_by (Revise key) = Some key
flight_written_by (Exempt key) = Some key
flight_written_by call = None

-- such a call is refused, changes nothing, or writes or removes that row
pub one_row : (m : State) (P : Step → Type 0) → ((r : Refusal) → P (refused r)) → P (leads m) → (call : Call) (key : Text) → flight_written_by call ≡ Some key
    → ((now : Option Row) → P (leads (set_row m key now))) → P (step m call)
one_row m P refusal stays call key is writes = by call is
  where
    own : (name : Text) → Some name ≡ Some key → (now : Option Row) → P (leads (set_row m name now))
    own name same = let is : key ≡ name = cc in subst (λ (k : Text). (now : Option Row) → P (leads (set_row m k now))) is writes

    by : (call : Call) → flight_written_by call ≡ Some key → P (step m call)
    by (File plan) is = file_cases m P refusal plan (λ absent. own plan.key is (Some (row_after_entry (situation m) plan.key (new_row plan))))
    by (Amend plan) is =
        amend_cases m P refusal plan (λ row found. own plan.key is (Some (row_after_entry (situation m) plan.key (record (ungoverned row) { plan = plan }))))
    by (Cancel name) is = cancel_cases m P refusal name (λ row found. own name is None)
    by (Revise name) is =
        revise_cases m P refusal name (λ row found not. stays)
        (λ row found revised. own name is (Some (row_after_entry (situation m) name (ungoverned row))))
    by (Exempt name) is = exempt_cases m P refusal name (λ row found not. own name is (Some (exempted row)))
    by (OpenReg id loc profile) is = cc
    by (CloseReg id) is = cc
    by (Rates id profile) is = cc
    by (Tick at) is = cc
    by (Show name) is = cc
    by (ListOf id) is = cc
    by (Swap one other) is = cc
