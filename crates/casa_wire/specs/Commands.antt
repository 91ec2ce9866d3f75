-- to believe: what a line means: a call, or the first fault that holds
use Rattle.std.specs.Prelude.{◌≡◌, ℕ, List, Option, Some, None, option_and_then, codes, Result, Ok, Err, bytes_eq, if◌then◌else◌}
use Rattle.std.specs.Str.{is_utf8}
use Rattle.serde_json.specs.Data.{Data}
use Rattle.serde_json.specs.Read.{read}
use Rattle.serde_json.specs.Find.{get, as_str}
use Rattle.casa_grid.specs.declared.period.Period.{Period}
use Rattle.casa_grid.specs.declared.profile.ProfileFault.{ProfileFault}
use Rattle.casa_grid.specs.declared.profile.ProfileFault.TheVariants.{NoMemory as NoMemoryForProfile}
use Rattle.casa_grid.specs.ProfileFaults.{profile_fault}
use Rattle.casa_filing.specs.Text.{Text}
use Rattle.casa_filing.specs.FlightPlan.{FlightPlan}
use Rattle.casa_filing.specs.PlanFaults.{plan_fault}
use Rattle.casa_filing.specs.declared.plan.PlanFault.{PlanFault}
use Rattle.casa_filing.specs.declared.plan.PlanFault.TheVariants.{BadKey, TaxiTooLong, TooManyCrossings, SameLocation, EtoBeforeTakeOff, OutOfRange, NoMemory as NoMemoryForPlan}
use Rattle.casa_filing.specs.declared.plan.Sts.{Sts}
use Rattle.casa_flight.specs.declared.call.Call.{Call}
use Rattle.casa_flight.specs.declared.call.Call.TheVariants.{File as FileCall, Amend as AmendCall, Cancel as CancelCall, Revise as ReviseCall, Exempt as ExemptCall, Show as ShowCall, OpenReg as OpenCall, CloseReg as CloseCall, Rates as RatesCall, List as ListCall, Tick as TickCall, Swap as SwapCall}
use Rattle.casa_wire.specs.declared.fault.Field.{Field}
use Rattle.casa_wire.specs.declared.fault.Field.TheVariants.{Key, Eobt, Taxi, Via, Sts as Status, Reg, Loc, Periods, At, Other}
use Rattle.casa_wire.specs.declared.fault.WireFault.{WireFault}
use Rattle.casa_wire.specs.declared.fault.WireFault.TheVariants.{NotJson, NoCommand, BadField, NoMemory}
use Rattle.casa_wire.specs.declared.reading.Command.{Command}
use Rattle.casa_wire.specs.declared.reading.Command.TheVariants.{File, Amend, Cancel, Revise, Exempt, Show, Open, Close, Rates, List as Listing, Tick, Swap}
use Rattle.casa_wire.specs.Fields.{field_name}
use Rattle.casa_wire.specs.Members.{name_of, number_of, moment_of, via_of, periods_of, status_of}

infixl 10 ◌>>=◌
abbrev pub ◌>>=◌ : {A B : Type 0} → Result A WireFault → (A → Result B WireFault) → Result B WireFault
(Ok x) >>= next = next x
(Err fault) >>= next = Err fault

abbrev pub or_fault : {A : Type 0} → WireFault → Option A → Result A WireFault
or_fault fault None = Err fault
or_fault fault (Some x) = Ok x

-- a member by this reading: it must be there
abbrev pub member : {A : Type 0} → Field → (Data → Option A) → Data → Result A WireFault
member field reading d = or_fault (BadField field) (option_and_then reading (get (field_name field) d))

-- the status: it may be absent
abbrev pub status_member : Data → Result Sts WireFault
status_member d = or_fault (BadField Status) (status_of (get (field_name Status) d))

-- the member at which a plan's fault lies
abbrev pub plan_wire_fault : PlanFault → WireFault
plan_wire_fault BadKey = BadField Key
plan_wire_fault TaxiTooLong = BadField Taxi
plan_wire_fault TooManyCrossings = BadField Via
plan_wire_fault SameLocation = BadField Via
plan_wire_fault EtoBeforeTakeOff = BadField Via
plan_wire_fault OutOfRange = BadField Eobt
plan_wire_fault NoMemoryForPlan = NoMemory

abbrev pub checked_plan : FlightPlan → Option PlanFault → Result FlightPlan WireFault
checked_plan plan None = Ok plan
checked_plan plan (Some fault) = Err (plan_wire_fault fault)

-- the plan of a filing: its five members, and then the faults of the plan
unfoldable pub plan_member : Data → Result FlightPlan WireFault
plan_member d = do
  key ← member Key as_str d
  eobt ← member Eobt moment_of d
  taxi ← member Taxi number_of d
  via ← member Via via_of d
  sts ← status_member d
  checked_plan (record { key = key; eobt = eobt; taxi = taxi; via = via; sts = sts }) (plan_fault key eobt taxi via)

-- a profile's fault lies at the periods
abbrev pub profile_wire_fault : ProfileFault → WireFault
profile_wire_fault NoMemoryForProfile = NoMemory
profile_wire_fault _ = BadField Periods

abbrev pub checked_profile : List Period → Option ProfileFault → Result (List Period) WireFault
checked_profile periods None = Ok periods
checked_profile periods (Some fault) = Err (profile_wire_fault fault)

-- the profile of a regulation: its periods, and then the faults of the profile
unfoldable pub profile_member : Data → Result (List Period) WireFault
profile_member d = do
  periods ← member Periods periods_of d
  checked_profile periods (profile_fault periods)

unfoldable pub file_call : Data → Result Call WireFault
file_call d = do
  plan ← plan_member d
  Ok (FileCall plan)

unfoldable pub amend_call : Data → Result Call WireFault
amend_call d = do
  plan ← plan_member d
  Ok (AmendCall plan)

unfoldable pub cancel_call : Data → Result Call WireFault
cancel_call d = do
  key ← member Key name_of d
  Ok (CancelCall key)

unfoldable pub revise_call : Data → Result Call WireFault
revise_call d = do
  key ← member Key name_of d
  Ok (ReviseCall key)

unfoldable pub exempt_call : Data → Result Call WireFault
exempt_call d = do
  key ← member Key name_of d
  Ok (ExemptCall key)

unfoldable pub show_call : Data → Result Call WireFault
show_call d = do
  key ← member Key name_of d
  Ok (ShowCall key)

unfoldable pub open_call : Data → Result Call WireFault
open_call d = do
  reg ← member Reg name_of d
  loc ← member Loc name_of d
  profile ← profile_member d
  Ok (OpenCall reg loc profile)

unfoldable pub close_call : Data → Result Call WireFault
close_call d = do
  reg ← member Reg name_of d
  Ok (CloseCall reg)

unfoldable pub rates_call : Data → Result Call WireFault
rates_call d = do
  reg ← member Reg name_of d
  profile ← profile_member d
  Ok (RatesCall reg profile)

unfoldable pub list_call : Data → Result Call WireFault
list_call d = do
  reg ← member Reg name_of d
  Ok (ListCall reg)

unfoldable pub tick_call : Data → Result Call WireFault
tick_call d = do
  at ← member At moment_of d
  Ok (TickCall at)

unfoldable pub swap_call : Data → Result Call WireFault
swap_call d = do
  key ← member Key name_of d
  other ← member Other name_of d
  Ok (SwapCall key other)

abbrev pub call_of : Command → Data → Result Call WireFault
call_of File d = file_call d
call_of Amend d = amend_call d
call_of Cancel d = cancel_call d
call_of Revise d = revise_call d
call_of Exempt d = exempt_call d
call_of Show d = show_call d
call_of Open d = open_call d
call_of Close d = close_call d
call_of Rates d = rates_call d
call_of Listing d = list_call d
call_of Tick d = tick_call d
call_of Swap d = swap_call d

abbrev pub command_named : Text → Option Command
command_named text =
    if bytes_eq text (codes "file") then Some File
    else (if bytes_eq text (codes "amend") then Some Amend
    else (if bytes_eq text (codes "cancel") then Some Cancel
    else (if bytes_eq text (codes "revise") then Some Revise
    else (if bytes_eq text (codes "exempt") then Some Exempt
    else (if bytes_eq text (codes "show") then Some Show
    else (if bytes_eq text (codes "open") then Some Open
    else (if bytes_eq text (codes "close") then Some Close
    else (if bytes_eq text (codes "rates") then Some Rates
    else (if bytes_eq text (codes "list") then Some Listing
    else (if bytes_eq text (codes "tick") then Some Tick
    else (if bytes_eq text (codes "swap") then Some Swap else None)))))))))))

abbrev pub command_of : Data → Option Command
command_of d = option_and_then command_named (option_and_then as_str (get (codes "cmd") d))

-- the JSON value that the bytes of a line are
abbrev pub line_value : List ℕ → Option Data
line_value bytes = if is_utf8 bytes then read bytes else None

unfoldable pub line_call : List ℕ → Result Call WireFault
line_call bytes = do
  d ← or_fault NotJson (line_value bytes)
  command ← or_fault NoCommand (command_of d)
  call_of command d

abbrev pub Fails : {Y : Type 0} → WireFault → Result Y WireFault → Type 0
Fails NotJson meaning = meaning ≡ Err NotJson
Fails NoCommand meaning = meaning ≡ Err NoCommand
Fails (BadField field) meaning = meaning ≡ Err (BadField field)
Fails NoMemory meaning = Unit {0}

-- what a function returned, as `view` sees it, is the meaning; nothing is claimed where memory is refused
abbrev pub GivesAs : {X Y : Type 0} → (X → Y) → Result X WireFault → Result Y WireFault → Type 0
GivesAs view (Ok x) meaning = meaning ≡ Ok (view x)
GivesAs view (Err fault) meaning = Fails fault meaning

-- what a function returned is the meaning; nothing is claimed where memory is refused
abbrev pub Gives : {X : Type 0} → Result X WireFault → Result X WireFault → Type 0
Gives result meaning = GivesAs (λ x. x) result meaning
