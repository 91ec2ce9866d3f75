-- a line is read as its checks say
use Rattle.std.proofs.Common.{◌≡◌, ℕ, List, [], ◌∷◌, Bool, true, false, cond, not, length, nat_lt, Option, Some, None, is_some, is_none, refl, ap, sym, ◌==◌}
use Rattle.std.specs.Prelude.{Result, Ok, Err, ◌↔◌, IfSome, option_and_then, option_map, codes}
use Rattle.std.specs.Option.{option_map_or}
use Rattle.serde_json.specs.Data.{Data, null, boolean, number, string, array, object}
use Rattle.serde_json.specs.Find.{get, as_str, as_object}
use Rattle.casa_time.specs.Moment.{last_moment}
use Rattle.casa_grid.specs.declared.period.Period.{Period}
use Rattle.casa_grid.specs.declared.profile.ProfileFault.{ProfileFault}
use Rattle.casa_grid.specs.Profile.{most_periods}
use Rattle.casa_grid.specs.ProfileFaults.{profile_fault, has_gap, has_bad_rate, is_too_long}
use Rattle.casa_filing.specs.Text.{Text, is_name}
use Rattle.casa_filing.specs.FlightPlan.{FlightPlan, longest_taxi, most_crossings, etot}
use Rattle.casa_filing.specs.PlanFaults.{plan_fault, has_twice, has_early}
use Rattle.casa_filing.specs.declared.plan.Crossing.{Crossing}
use Rattle.casa_filing.specs.declared.plan.PlanFault.{PlanFault}
use Rattle.casa_filing.specs.declared.plan.PlanFault.TheVariants.{BadKey, TaxiTooLong, TooManyCrossings, SameLocation, EtoBeforeTakeOff, OutOfRange}
use Rattle.casa_filing.specs.declared.plan.Sts.{Sts}
use Rattle.casa_flight.specs.declared.call.Call.{Call}
use Rattle.casa_flight.specs.declared.call.Call.TheVariants.{File as FileCall, Amend as AmendCall, Cancel as CancelCall, Revise as ReviseCall, Exempt as ExemptCall, Show as ShowCall, OpenReg as OpenCall, CloseReg as CloseCall, Rates as RatesCall, List as ListCall, Tick as TickCall, Swap as SwapCall}
use Rattle.casa_wire.specs.declared.fault.Field.TheVariants.{Key, Eobt, Taxi, Via, Sts as Status, Reg, Loc, Periods, At, Other}
use Rattle.casa_wire.specs.declared.fault.WireFault.{WireFault}
use Rattle.casa_wire.specs.declared.fault.WireFault.TheVariants.{NotJson, NoCommand, BadField}
use Rattle.casa_wire.specs.declared.reading.Command.{Command}
use Rattle.casa_wire.specs.declared.reading.Command.TheVariants.{File, Amend, Cancel, Revise, Exempt, Show, Open, Close, Rates, List as Listing, Tick, Swap}
use Rattle.casa_wire.specs.Members.{name_of, number_of, moment_of, via_of, periods_of, status_of, part}
use Rattle.casa_wire.specs.Commands.{◌>>=◌, or_fault, checked_plan, plan_wire_fault, checked_profile, profile_wire_fault, plan_member, profile_member, file_call, amend_call, cancel_call, revise_call, exempt_call, show_call, open_call, close_call, rates_call, list_call, tick_call, swap_call, call_of, command_of, line_value, line_call}
use Rattle.casa_wire.specs.Checks.{Check, first_fault, plan_checks, command_checks, value_checks, line_checks, call_with, said_call}

-- a meaning is the first fault of the checks or, where none holds, the call that is said
abbrev Gives : Result Call WireFault → Option WireFault → Option Call → Type 0
Gives (Ok call) first said = (first ≡ None) × (said ≡ Some call)
Gives (Err fault) first said = first ≡ Some fault

abbrev Agrees : Result Call WireFault → List Check → Option Call → Type 0
Agrees meaning checks said = Gives meaning (first_fault checks) said

-- a command of one member
one_member : {A : Type 0} (fault : WireFault) (make : A → Call) (o : Option A)
    → Agrees (or_fault fault o >>= (λ x. Ok (make x))) ((is_none o, fault) ∷ []) (option_map make o)
one_member fault make None = refl
one_member fault make (Some x) = (refl, refl)

-- the first fault of a plan, and the checks that find it
abbrev first_of_plan : List (Bool × PlanFault) → Option PlanFault
first_of_plan [] = None
first_of_plan (t ∷ ts) = cond t.0 (Some t.1) (first_of_plan ts)

abbrev at_members : List (Bool × PlanFault) → List Check
at_members [] = []
at_members (t ∷ ts) = (t.0, plan_wire_fault t.1) ∷ at_members ts

checked_plan_agrees : (plan : FlightPlan) (make : FlightPlan → Call) (ts : List (Bool × PlanFault))
    → Agrees (checked_plan plan (first_of_plan ts) >>= (λ p. Ok (make p))) (at_members ts) (Some (make plan))
checked_plan_agrees plan make [] = (refl, refl)
checked_plan_agrees plan make ((true, fault) ∷ ts) = refl
checked_plan_agrees plan make ((false, fault) ∷ ts) = checked_plan_agrees plan make ts

plan_agrees : (plan : FlightPlan) (make : FlightPlan → Call)
    → Agrees (checked_plan plan (plan_fault plan.key plan.eobt plan.taxi plan.via) >>= (λ p. Ok (make p))) (plan_checks plan) (Some (make plan))
plan_agrees plan make =
    checked_plan_agrees plan make (
    (not (is_name plan.key), BadKey) ∷ (nat_lt longest_taxi plan.taxi, TaxiTooLong)
    ∷ (nat_lt most_crossings (length plan.via), TooManyCrossings) ∷ (has_twice plan.via, SameLocation)
    ∷ (has_early (etot plan) plan.via, EtoBeforeTakeOff) ∷ (nat_lt last_moment (etot plan), OutOfRange) ∷ [])

-- a filing, by what its members are read as
filing_agrees : (make : FlightPlan → Call) (key : Option Text) (eobt taxi : Option ℕ) (via : Option (List Crossing)) (sts : Option Sts)
    → let plan : Option FlightPlan = option_and_then (λ k. option_and_then (λ e. option_and_then (λ t. option_and_then (λ v. option_and_then
    (λ s. Some (record { key = k; eobt = e; taxi = t; via = v; sts = s })) sts) via) taxi) eobt) key in
    Agrees ((or_fault (BadField Key) key >>= (λ k. or_fault (BadField Eobt) eobt >>= (λ e. or_fault (BadField Taxi) taxi >>= (λ t.
    or_fault (BadField Via) via >>= (λ v. or_fault (BadField Status) sts >>= (λ s.
    checked_plan (record { key = k; eobt = e; taxi = t; via = v; sts = s }) (plan_fault k e t v))))))) >>= (λ p. Ok (make p)))
    ((is_none key, BadField Key) ∷ (is_none eobt, BadField Eobt) ∷ (is_none taxi, BadField Taxi) ∷ (is_none via, BadField Via)
    ∷ (is_none sts, BadField Status) ∷ option_map_or plan_checks plan [])
    (option_map make plan)
filing_agrees make None eobt taxi via sts = refl
filing_agrees make (Some k) None taxi via sts = refl
filing_agrees make (Some k) (Some e) None via sts = refl
filing_agrees make (Some k) (Some e) (Some t) None sts = refl
filing_agrees make (Some k) (Some e) (Some t) (Some v) None = refl
filing_agrees make (Some k) (Some e) (Some t) (Some v) (Some s) = plan_agrees (record { key = k; eobt = e; taxi = t; via = v; sts = s }) make

-- what is wrong with periods is a fault of the member
abbrev IsAtPeriods : Option ProfileFault → Type 0
IsAtPeriods found = IfSome found (λ fault. profile_wire_fault fault ≡ BadField Periods)

one_of_both : (b : Bool) (x y : Option ProfileFault) → IsAtPeriods x → IsAtPeriods y → IsAtPeriods (cond b x y)
one_of_both true x y hx hy = hx
one_of_both false x y hx hy = hy

at_periods : (ps : List Period) → IsAtPeriods (profile_fault ps)
at_periods ps =
    one_of_both (length ps == 0) _ _ refl
    (one_of_both (nat_lt most_periods (length ps)) _ _ refl
    (one_of_both (has_gap ps) _ _ refl
    (one_of_both (has_bad_rate ps) _ _ refl
    (one_of_both (is_too_long ps) _ _ refl tt))))

checked_agrees : (make : List Period → Call) (ps : List Period) (found : Option ProfileFault) → IsAtPeriods found
    → Agrees (checked_profile ps found >>= (λ p. Ok (make p))) ((is_some found, BadField Periods) ∷ []) (Some (make ps))
checked_agrees make ps None h = (refl, refl)
checked_agrees make ps (Some fault) h = ap Some (sym h)

profile_agrees : (make : List Period → Call) (o : Option (List Period))
    → Agrees ((or_fault (BadField Periods) o >>= (λ ps. checked_profile ps (profile_fault ps))) >>= (λ p. Ok (make p)))
    ((is_none o, BadField Periods) ∷ (is_some (option_and_then profile_fault o), BadField Periods) ∷ [])
    (option_and_then (λ ps. Some (make ps)) o)
profile_agrees make None = refl
profile_agrees make (Some ps) = checked_agrees make ps (profile_fault ps) (at_periods ps)

-- periods behind a regulation, and behind a regulation and a location
rates_agrees : (reg : Option Text) (o : Option (List Period))
    → Agrees (or_fault (BadField Reg) reg >>= (λ r. (or_fault (BadField Periods) o >>= (λ ps. checked_profile ps (profile_fault ps))) >>= (λ p. Ok (RatesCall r p))))
    ((is_none reg, BadField Reg) ∷ (is_none o, BadField Periods) ∷ (is_some (option_and_then profile_fault o), BadField Periods) ∷ [])
    (option_and_then (λ r. option_and_then (λ ps. Some (RatesCall r ps)) o) reg)
rates_agrees None o = refl
rates_agrees (Some r) o = profile_agrees (RatesCall r) o

open_agrees : (reg loc : Option Text) (o : Option (List Period))
    → Agrees (or_fault (BadField Reg) reg >>= (λ r. or_fault (BadField Loc) loc >>= (λ l.
    (or_fault (BadField Periods) o >>= (λ ps. checked_profile ps (profile_fault ps))) >>= (λ p. Ok (OpenCall r l p)))))
    ((is_none reg, BadField Reg) ∷ (is_none loc, BadField Loc) ∷ (is_none o, BadField Periods) ∷ (is_some (option_and_then profile_fault o), BadField Periods) ∷ [])
    (option_and_then (λ r. option_and_then (λ l. option_and_then (λ ps. Some (OpenCall r l ps)) o) loc) reg)
open_agrees None loc o = refl
open_agrees (Some r) None o = refl
open_agrees (Some r) (Some l) o = profile_agrees (OpenCall r l) o

-- two keys
swap_agrees : (key other : Option Text)
    → Agrees (or_fault (BadField Key) key >>= (λ k. or_fault (BadField Other) other >>= (λ o. Ok (SwapCall k o))))
    ((is_none key, BadField Key) ∷ (is_none other, BadField Other) ∷ [])
    (option_and_then (λ k. option_and_then (λ o. Some (SwapCall k o)) other) key)
swap_agrees None other = refl
swap_agrees (Some k) None = refl
swap_agrees (Some k) (Some o) = (refl, refl)

command_agrees : (d : Data) (command : Command) → Agrees (call_of command d) (command_checks d command) (call_with d command)
unfolding plan_member profile_member file_call amend_call cancel_call revise_call exempt_call show_call open_call close_call rates_call list_call tick_call swap_call
command_agrees d File = filing_agrees FileCall (part (codes "key") as_str d) (part (codes "eobt") moment_of d) (part (codes "taxi") number_of d) (part (codes "via") via_of d) (status_of (get (codes "sts") d))
command_agrees d Amend = filing_agrees AmendCall (part (codes "key") as_str d) (part (codes "eobt") moment_of d) (part (codes "taxi") number_of d) (part (codes "via") via_of d) (status_of (get (codes "sts") d))
command_agrees d Cancel = one_member (BadField Key) CancelCall (part (codes "key") name_of d)
command_agrees d Revise = one_member (BadField Key) ReviseCall (part (codes "key") name_of d)
command_agrees d Exempt = one_member (BadField Key) ExemptCall (part (codes "key") name_of d)
command_agrees d Show = one_member (BadField Key) ShowCall (part (codes "key") name_of d)
command_agrees d Open = open_agrees (part (codes "reg") name_of d) (part (codes "loc") name_of d) (part (codes "periods") periods_of d)
command_agrees d Close = one_member (BadField Reg) CloseCall (part (codes "reg") name_of d)
command_agrees d Rates = rates_agrees (part (codes "reg") name_of d) (part (codes "periods") periods_of d)
command_agrees d Listing = one_member (BadField Reg) ListCall (part (codes "reg") name_of d)
command_agrees d Tick = one_member (BadField At) TickCall (part (codes "at") moment_of d)
command_agrees d Swap = swap_agrees (part (codes "key") name_of d) (part (codes "other") name_of d)

-- what is no object has no command
value_agrees : (d : Data) (o : Option Command) → (as_object d ≡ None → o ≡ None)
    → Agrees (or_fault NoCommand o >>= (λ command. call_of command d))
    ((is_none (as_object d), NoCommand) ∷ (is_none o, NoCommand) ∷ option_map_or (command_checks d) o [])
    (option_and_then (call_with d) o)
value_agrees d None none = at_none (as_object d)
  where
    at_none : {A : Type 0} (o : Option A) → first_fault ((is_none o, NoCommand) ∷ (true, NoCommand) ∷ []) ≡ Some NoCommand
    at_none None = refl
    at_none (Some x) = refl
value_agrees (object ms) (Some command) none = command_agrees (object ms) command
value_agrees null (Some command) none = let none_at : Some command ≡ None = none refl in absurd (cc)
value_agrees (boolean b) (Some command) none = let none_at : Some command ≡ None = none refl in absurd (cc)
value_agrees (number n) (Some command) none = let none_at : Some command ≡ None = none refl in absurd (cc)
value_agrees (string s) (Some command) none = let none_at : Some command ≡ None = none refl in absurd (cc)
value_agrees (array ds) (Some command) none = let none_at : Some command ≡ None = none refl in absurd (cc)

no_command : (d : Data) → as_object d ≡ None → command_of d ≡ None
no_command null h = refl
no_command (boolean b) h = refl
no_command (number n) h = refl
no_command (string s) h = refl
no_command (array ds) h = refl
no_command (object ms) h = absurd (cc)

json_agrees : (o : Option Data)
    → Agrees (or_fault NotJson o >>= (λ d. or_fault NoCommand (command_of d) >>= (λ command. call_of command d)))
    ((is_none o, NotJson) ∷ option_map_or value_checks o [])
    (option_and_then (λ d. option_and_then (call_with d) (command_of d)) o)
json_agrees None = refl
json_agrees (Some d) = value_agrees d (command_of d) (no_command d)

line_agrees : (line : List ℕ) → Agrees (line_call line) (line_checks line) (said_call line)
unfolding line_call
line_agrees line = json_agrees (line_value line)

agreed_fault : (r : Result Call WireFault) (checks : List Check) (said : Option Call) (fault : WireFault) → Agrees r checks said
    → (r ≡ Err fault) ↔ (first_fault checks ≡ Some fault)
agreed_fault (Ok call) checks said fault h = ((λ e. absurd (cc)), (λ e. absurd (cc)))
agreed_fault (Err found) checks said fault h = ((λ e. cc), (λ e. cc))

agreed_call : (r : Result Call WireFault) (checks : List Check) (said : Option Call) (call : Call) → Agrees r checks said
    → (r ≡ Ok call) ↔ ((first_fault checks ≡ None) × (said ≡ Some call))
agreed_call (Ok found) checks said call h = ((λ e. (h.0, cc)), (λ e. cc))
agreed_call (Err fault) checks said call h = ((λ e. absurd (cc)), (λ e. absurd (cc)))

pub fault_is_first : (line : List ℕ) (fault : WireFault) → (line_call line ≡ Err fault) ↔ (first_fault (line_checks line) ≡ Some fault)
fault_is_first line fault = agreed_fault (line_call line) (line_checks line) (said_call line) fault (line_agrees line)

pub call_is_said : (line : List ℕ) (call : Call) → (line_call line ≡ Ok call) ↔ ((first_fault (line_checks line) ≡ None) × (said_call line ≡ Some call))
call_is_said line call = agreed_call (line_call line) (line_checks line) (said_call line) call (line_agrees line)
