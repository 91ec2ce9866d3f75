-- to believe: the calls, and what each does to the state
use Rattle.std.specs.Prelude.{ℕ, ◌+◌, ◌-◌, List, length, map, Bool, true, false, not, ◌&&◌, ◌||◌, ◌==◌, nat_le, nat_lt, Option, None, Some, is_some, if◌then◌else◌}
use Rattle.std.specs.Option.{option_map, option_map_or}
use Rattle.std.specs.List.{filter_map}
use Rattle.casa_grid.specs.declared.period.Period.{Period}
use Rattle.casa_grid.specs.Profile.{start_of, end_of}
use Rattle.casa_flight.specs.declared.call.Call.{Call}
use Rattle.casa_flight.specs.declared.call.Call.TheVariants.{File, Amend, Cancel, Revise, Exempt, OpenReg, CloseReg, Rates, Tick, Show, List as ListOf, Swap}
use Rattle.casa_flight.specs.declared.call.Refusal.{Refusal}
use Rattle.casa_flight.specs.declared.call.Refusal.TheVariants.{Duplicate, NoFlight, Late, AlreadyExempt, DuplicateRegulation, NoRegulation, TooManyRegulations, SpanChanged, BackInTime, NotIssued, OtherRegulation, TooEarly}
use Rattle.casa_flight.specs.declared.comp.Comp.{Comp}
use Rattle.casa_filing.specs.declared.regulation.Regulation.{Regulation}
use Rattle.casa_filing.specs.declared.regulation.Measure.{Measure}
use Rattle.casa_flight.specs.declared.row.Row.{Row}
use Rattle.casa_flight.specs.declared.state.State.{State}
use Rattle.casa_filing.specs.Text.{Text, put, without}
use Rattle.casa_filing.specs.FlightPlan.{FlightPlan, etot}
use Rattle.casa_filing.specs.Subject.{regulation, subject, is_gone}
use Rattle.casa_flight.specs.State.{row_of, measure_of, with_row, is_exempt, is_governed_by, ungoverned}
use Rattle.casa_flight.specs.Listing.{Listing, stance_of, eto_as, governing_list, ctot_of, sorted_by, is_before}
use Rattle.casa_flight.specs.Entry.{situation, row_after_entry, enter, enter_all, issue_due}

-- a call is refused, or it leads to a state
pub data Step : Type 0 where
  refused : Refusal → Step
  leads : State → Step

-- how many regulations may be open (profile)
abbrev pub most_regulations : ℕ
most_regulations = 256

-- each call below by its look-ups, an equation for each outcome, the refusals in their order (profile)

abbrev pub new_row : FlightPlan → Row
new_row plan = record { plan = plan; marked = false; governing = None; issued = None }

-- a filed flight is added and enters
abbrev pub file : State → FlightPlan → Option Row → Bool → Step
file m plan (Some row) late = refused Duplicate
file m plan None true = refused Late
file m plan None false = leads (enter m plan.key (new_row plan))

-- an amended flight enters with its new plan; a desk's mark stays
abbrev pub amend : State → FlightPlan → Option Row → Bool → Step
amend m plan None late = refused NoFlight
amend m plan (Some row) true = refused Late
amend m plan (Some row) false = leads (enter m plan.key (record (ungoverned row) { plan = plan }))

abbrev pub cancel : State → Text → Option Row → Step
cancel m key None = refused NoFlight
cancel m key (Some row) = leads (record m { rows = without m.rows key })

-- what is not issued always takes what it gets; what is issued takes it before it is gone, and only if it leaves earlier
abbrev pub is_revised : State → Text → Row → Row → Bool
is_revised m key row new =
    not (is_some row.issued) || (not (is_gone m.clock row.plan) && nat_lt (ctot_of (with_row m key new) key new) (ctot_of m key row))

abbrev pub state_if : Bool → State → State → State
state_if true then_this else_that = then_this
state_if false then_this else_that = else_that

abbrev pub revise_to : State → Text → Row → Row → State
revise_to m key row new = state_if (is_revised m key row new) (with_row m key new) m

-- a revised flight is taken out and enters anew
abbrev pub revise : State → Text → Option Row → Step
revise m key None = refused NoFlight
revise m key (Some row) = leads (revise_to m key row (row_after_entry (situation m) key (ungoverned row)))

abbrev pub exempt_if : State → Text → Row → Bool → Step
exempt_if m key row true = refused AlreadyExempt
exempt_if m key row false = leads (with_row m key (record (ungoverned row) { marked = true }))

abbrev pub exempt : State → Text → Option Row → Step
exempt m key None = refused NoFlight
exempt m key (Some row) = exempt_if m key row (is_exempt row)

-- the flights that pass a test and are subject to a regulation, by their time over there and key
abbrev pub flights_over : (Row → Bool) → Regulation → List (Text × Row) → List Comp
flights_over test r rows =
    sorted_by is_before (filter_map (λ (e : Text × Row).
    if test e.1 then option_map (λ (eto : ℕ). record { eto = eto; key = e.0 }) (subject e.1.plan r) else None) rows)

-- whether an ungoverned flight may compete
abbrev pub may_compete : ℕ → Row → Bool
may_compete clock row = not (is_exempt row) && (not (is_gone clock row.plan) && not (is_some row.governing))

-- a regulation with this measure, which opens or ends later than before, takes in the flights that nothing governs and that
-- may compete
abbrev pub take_in : State → Text → Measure → State
take_in m id measure =
    enter_all (record m { regs = put m.regs id measure })
    (flights_over (may_compete m.clock) (regulation id measure) m.rows)

abbrev pub open_regulation : State → Text → Measure → Option Measure → Bool → Step
open_regulation m id measure (Some old) full = refused DuplicateRegulation
open_regulation m id measure None true = refused TooManyRegulations
open_regulation m id measure None false = leads (take_in m id measure)

abbrev pub ungoverned_if : Bool → Row → Row
ungoverned_if true row = ungoverned row
ungoverned_if false row = row

-- the state without a regulation, and the flights that it governed free
abbrev pub state_without_regulation : State → Text → State
state_without_regulation m id =
    record m { regs = without m.regs id; rows = map (λ (e : Text × Row). (e.0, ungoverned_if (is_governed_by id e.1) e.1)) m.rows }

-- a closed regulation frees all its flights, and then they enter
abbrev pub close_regulation : State → Text → Option Measure → Step
close_regulation m id None = refused NoRegulation
close_regulation m id (Some measure) =
    leads (enter_all (state_without_regulation m id) (flights_over (is_governed_by id) (regulation id measure) m.rows))

-- whether a profile starts as another does and does not end before it
abbrev pub keeps_span : List Period → List Period → Bool
keeps_span profile other = (start_of profile == start_of other) && nat_le (end_of other) (end_of profile)

-- whether it ends after the other
abbrev pub ends_later : List Period → List Period → Bool
ends_later profile other = nat_lt (end_of other) (end_of profile)

abbrev pub rates_if : State → Text → Measure → Bool → Bool → Step
rates_if m id measure false later = refused SpanChanged
rates_if m id measure true false = leads (record m { regs = put m.regs id measure })
rates_if m id measure true true = leads (take_in m id measure)

-- new rates replace the profile; issued times stay, and all other places follow from it. A later end takes flights in
abbrev pub rates : State → Text → List Period → Option Measure → Step
rates m id profile None = refused NoRegulation
rates m id profile (Some measure) =
    rates_if m id (record measure { profile = profile }) (keeps_span profile measure.profile)
    (ends_later profile measure.profile)

-- whether this is a later end of an open regulation
abbrev pub extends : State → Text → List Period → Bool
extends m id profile = option_map_or (λ (measure : Measure). ends_later profile measure.profile) (measure_of m id) false

abbrev pub tick : State → ℕ → Bool → Step
tick m at true = refused BackInTime
tick m at false = leads (issue_due (record m { clock = at }))

abbrev pub show : State → Option Row → Step
show m None = refused NoFlight
show m (Some row) = leads m

abbrev pub list : State → Option Measure → Step
list m None = refused NoRegulation
list m (Some measure) = leads m

-- an issued flight with another time
abbrev pub with_issued_time : Row → ℕ → Row
with_issued_time row time = record row { issued = Some time }

-- two issued flights that exchange their times: each flight's key and row, and the time at which it was issued
pub record Exchange : Type 0 where
  pub key : Text
  pub row : Row
  pub cto : ℕ
  pub other : Text
  pub mate : Row
  pub time : ℕ

-- a flight's estimated time over in a list, if there is the list and the flight is in it
abbrev pub eto_in : Option Listing → Text → ℕ
eto_in l key = option_map_or (λ (l : Listing). option_map_or eto_as (stance_of l key) 0) l 0

-- whether a time is too early for a flight with this row, at this clock and by the list that governs it: it is before the
-- flight's own time over there, or the flight would have to take off before the clock (profile)
abbrev pub is_too_early : ℕ → Option Listing → Text → Row → ℕ → Bool
is_too_early clock l key row time =
    let eto : ℕ = eto_in l key in
    nat_lt time eto || nat_lt (etot row.plan + (time - eto)) clock

-- whether one of two flights would get a time that is too early for it
abbrev pub are_too_early : ℕ → Option Listing → Option Listing → Exchange → Bool
are_too_early clock l k x = is_too_early clock l x.key x.row x.time || is_too_early clock k x.other x.mate x.cto

-- each of them is issued at the other's time
abbrev pub with_exchange : State → Exchange → State
with_exchange m x = with_row (with_row m x.key (with_issued_time x.row x.time)) x.other (with_issued_time x.mate x.cto)

abbrev pub swap_if : State → Exchange → Bool → Bool → Step
swap_if m x false early = refused OtherRegulation
swap_if m x true true = refused TooEarly
swap_if m x true false = leads (with_exchange m x)

-- whether the regulation that governs a flight governs the other one too
abbrev pub is_shared : Row → Row → Bool
is_shared row mate = option_map_or (λ (id : Text). is_governed_by id mate) row.governing false

abbrev pub swap_issued : State → Text → Row → Text → Row → Option ℕ → Option ℕ → Step
swap_issued m key row other mate None time = refused NotIssued
swap_issued m key row other mate (Some cto) None = refused NotIssued
swap_issued m key row other mate (Some cto) (Some time) =
    let x : Exchange = record { key = key; row = row; cto = cto; other = other; mate = mate; time = time } in
    swap_if m x (is_shared row mate) (are_too_early m.clock (governing_list m row) (governing_list m mate) x)

-- two issued flights of one regulation get each exactly the other's time; the same flight twice passes the same tests
abbrev pub swap : State → Text → Text → Option Row → Option Row → Step
swap m key other None mate = refused NoFlight
swap m key other (Some row) None = refused NoFlight
swap m key other (Some row) (Some mate) = swap_issued m key row other mate row.issued mate.issued

-- what a call does
abbrev pub step : State → Call → Step
step m (File plan) = file m plan (row_of m plan.key) (nat_lt plan.eobt m.clock)
step m (Amend plan) = amend m plan (row_of m plan.key) (nat_lt plan.eobt m.clock)
step m (Cancel key) = cancel m key (row_of m key)
step m (Revise key) = revise m key (row_of m key)
step m (Exempt key) = exempt m key (row_of m key)
step m (OpenReg id loc profile) =
    open_regulation m id (record { loc = loc; profile = profile }) (measure_of m id) (nat_le most_regulations (length m.regs))
step m (CloseReg id) = close_regulation m id (measure_of m id)
step m (Rates id profile) = rates m id profile (measure_of m id)
step m (Tick at) = tick m at (nat_lt at m.clock)
step m (Show key) = show m (row_of m key)
step m (ListOf id) = list m (measure_of m id)
step m (Swap key other) = swap m key other (row_of m key) (row_of m other)

abbrev pub after : State → Step → State
after m (refused r) = m
after m (leads n) = n

-- the state in which a call leaves the allocator; a refused one changes nothing
abbrev pub next : State → Call → State
next m call = after m (step m call)
