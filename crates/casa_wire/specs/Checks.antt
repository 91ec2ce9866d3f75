-- inner contracts: what can be wrong with a line, in the order of the checks, and what it says where nothing is
use Rattle.std.specs.Prelude.{ℕ, List, [], ◌∷◌, length, Bool, not, nat_lt, find, Option, Some, is_none, is_some, option_and_then, option_map, codes}
use Rattle.std.specs.Option.{option_map_or}
use Rattle.serde_json.specs.Data.{Data}
use Rattle.serde_json.specs.Find.{get, as_str, as_object}
use Rattle.casa_time.specs.Moment.{last_moment}
use Rattle.casa_grid.specs.ProfileFaults.{profile_fault}
use Rattle.casa_filing.specs.Text.{is_name}
use Rattle.casa_filing.specs.FlightPlan.{FlightPlan, longest_taxi, most_crossings, etot}
use Rattle.casa_filing.specs.PlanFaults.{has_twice, has_early}
use Rattle.casa_flight.specs.declared.call.Call.{Call}
use Rattle.casa_flight.specs.declared.call.Call.TheVariants.{File as FileCall, Amend as AmendCall, Cancel as CancelCall, Revise as ReviseCall, Exempt as ExemptCall, Show as ShowCall, OpenReg as OpenCall, CloseReg as CloseCall, Rates as RatesCall, List as ListCall, Tick as TickCall, Swap as SwapCall}
use Rattle.casa_wire.specs.declared.fault.Field.{Field}
use Rattle.casa_wire.specs.declared.fault.Field.TheVariants.{Key, Eobt, Taxi, Via, Sts as Status, Reg, Loc, Periods, At, Other}
use Rattle.casa_wire.specs.declared.fault.WireFault.{WireFault}
use Rattle.casa_wire.specs.declared.fault.WireFault.TheVariants.{NotJson, NoCommand, BadField}
use Rattle.casa_wire.specs.declared.reading.Command.{Command}
use Rattle.casa_wire.specs.declared.reading.Command.TheVariants.{File, Amend, Cancel, Revise, Exempt, Show, Open, Close, Rates, List as Listing, Tick, Swap}
use Rattle.casa_wire.specs.Fields.{field_name}
use Rattle.casa_wire.specs.Members.{name_of, number_of, moment_of, via_of, periods_of, status_of, part, ◌>>=◌}
use Rattle.casa_wire.specs.Commands.{command_of, line_value}

-- whether something is wrong, and the fault that this is
abbrev pub Check : Type 0
Check = Bool × WireFault

-- the fault of the first check that holds
abbrev pub first_fault : List Check → Option WireFault
first_fault checks = option_map (λ (check : Check). check.1) (find (λ (check : Check). check.0) checks)

-- the member is absent, or not what it must be
abbrev pub lacks : {A : Type 0} → Field → (Data → Option A) → Data → Check
lacks field reading d = (is_none (part (field_name field) reading d), BadField field)

-- the status is there, and not what it must be
abbrev pub bad_status : Data → Check
bad_status d = (is_none (status_of (get (codes "sts") d)), BadField Status)

-- the plan of the five members of a filing, where each is what it must be
abbrev pub plan_of : Data → Option FlightPlan
plan_of d = do
  key ← part (codes "key") as_str d
  eobt ← part (codes "eobt") moment_of d
  taxi ← part (codes "taxi") number_of d
  via ← part (codes "via") via_of d
  sts ← status_of (get (codes "sts") d)
  Some (record { key = key; eobt = eobt; taxi = taxi; via = via; sts = sts })

abbrev pub plan_checks : FlightPlan → List Check
plan_checks plan =
    (not (is_name plan.key), BadField Key) ∷
    (nat_lt longest_taxi plan.taxi, BadField Taxi) ∷
    (nat_lt most_crossings (length plan.via), BadField Via) ∷
    (has_twice plan.via, BadField Via) ∷
    (has_early (etot plan) plan.via, BadField Via) ∷
    (nat_lt last_moment (etot plan), BadField Eobt) ∷ []

-- of a filing: each member in its turn, and then the plan
abbrev pub filing_checks : Data → List Check
filing_checks d =
    lacks Key as_str d ∷
    lacks Eobt moment_of d ∷
    lacks Taxi number_of d ∷
    lacks Via via_of d ∷
    bad_status d ∷ option_map_or plan_checks (plan_of d) []

-- the periods are there, and make no profile
abbrev pub bad_profile : Data → Check
bad_profile d = (is_some (option_and_then profile_fault (part (codes "periods") periods_of d)), BadField Periods)

-- of each command
abbrev pub command_checks : Data → Command → List Check
command_checks d File = filing_checks d
command_checks d Amend = filing_checks d
command_checks d Cancel = lacks Key name_of d ∷ []
command_checks d Revise = lacks Key name_of d ∷ []
command_checks d Exempt = lacks Key name_of d ∷ []
command_checks d Show = lacks Key name_of d ∷ []
command_checks d Open = lacks Reg name_of d ∷ lacks Loc name_of d ∷ lacks Periods periods_of d ∷ bad_profile d ∷ []
command_checks d Close = lacks Reg name_of d ∷ []
command_checks d Rates = lacks Reg name_of d ∷ lacks Periods periods_of d ∷ bad_profile d ∷ []
command_checks d Listing = lacks Reg name_of d ∷ []
command_checks d Tick = lacks At moment_of d ∷ []
command_checks d Swap = lacks Key name_of d ∷ lacks Other name_of d ∷ []

-- of a JSON value: that it is an object, that its command is known, and the checks of that
abbrev pub value_checks : Data → List Check
value_checks d =
    (is_none (as_object d), NoCommand) ∷
    (is_none (command_of d), NoCommand) ∷ option_map_or (command_checks d) (command_of d) []

-- of a line: that it is JSON, and the checks of its value
abbrev pub line_checks : List ℕ → List Check
line_checks line = (is_none (line_value line), NotJson) ∷ option_map_or value_checks (line_value line) []

-- the call that the members of a command make, where each is what it must be
abbrev pub call_with : Data → Command → Option Call
call_with d File = option_map FileCall (plan_of d)
call_with d Amend = option_map AmendCall (plan_of d)
call_with d Cancel = option_map CancelCall (part (codes "key") name_of d)
call_with d Revise = option_map ReviseCall (part (codes "key") name_of d)
call_with d Exempt = option_map ExemptCall (part (codes "key") name_of d)
call_with d Show = option_map ShowCall (part (codes "key") name_of d)
call_with d Open = do
  reg ← part (codes "reg") name_of d
  loc ← part (codes "loc") name_of d
  periods ← part (codes "periods") periods_of d
  Some (OpenCall reg loc periods)
call_with d Close = option_map CloseCall (part (codes "reg") name_of d)
call_with d Rates = do
  reg ← part (codes "reg") name_of d
  periods ← part (codes "periods") periods_of d
  Some (RatesCall reg periods)
call_with d Listing = option_map ListCall (part (codes "reg") name_of d)
call_with d Tick = option_map TickCall (part (codes "at") moment_of d)
call_with d Swap = do
  key ← part (codes "key") name_of d
  other ← part (codes "other") name_of d
  Some (SwapCall key other)

-- the call that a line says: that of the command and the members of its value
abbrev pub said_call : List ℕ → Option Call
said_call line = do
  d ← line_value line
  command ← command_of d
  call_with d command
