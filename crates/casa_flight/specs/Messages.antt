-- to believe: which messages can come of a call, and what each says
use Rattle.std.specs.Prelude.{◌≡◌, ◌⊎◌, ℕ, ◌<◌, List, [], Bool, true, false, not, ◌&&◌, Some, is_some}
use Rattle.std.specs.Option.{option_map_or}
use Rattle.casa_flight.specs.declared.call.Call.{Call}
use Rattle.casa_flight.specs.declared.call.Call.TheVariants.{File, Amend, Cancel, Revise, Exempt, OpenReg, CloseReg, Rates, Tick, Show, List as ListOf, Swap}
use Rattle.casa_flight.specs.declared.reply.Message.{Message}
use Rattle.casa_flight.specs.declared.reply.Message.TheVariants.{Sam, Srm, Slc}
use Rattle.casa_flight.specs.declared.reply.Reply.{Reply}
use Rattle.casa_flight.specs.declared.reply.Reply.TheVariants.{Refused, Answered}
use Rattle.casa_flight.specs.declared.row.Row.{Row}
use Rattle.casa_flight.specs.declared.state.State.{State}
use Rattle.casa_filing.specs.Text.{Text}
use Rattle.casa_filing.specs.Subject.{is_due}
use Rattle.casa_flight.specs.State.{row_of, is_governed_by}
use Rattle.casa_flight.specs.Listing.{ctot_of}
use Rattle.casa_flight.specs.Entry.{is_to_issue}
use Rattle.casa_flight.specs.Steps.{may_compete, extends}
use Rattle.casa_flight.specs.Replies.{is_issued, ctot_before}

-- the messages of a reply; a refusal has none
abbrev pub messages_in : Reply → List Message
messages_in (Refused r) = []
messages_in (Answered answer ms) = ms

-- the flight that a message is for
abbrev pub flight_of : Message → Text
flight_of (Sam key ctot reg) = key
flight_of (Srm key ctot reg) = key
flight_of (Slc key) = key

-- the flight filed under the key passes a test
abbrev pub Passes : State → Text → (Row → Bool) → Type 0
Passes m key test = option_map_or test (row_of m key) false ≡ true

-- the messages that can come of a call on a state, and whom they are for (profile)
abbrev pub CanCome : State → Call → Message → Type 0
-- a filed flight may be issued at once
CanCome m (File plan) (Sam key ctot reg) = key ≡ plan.key
-- an amended flight may get a slot, another take-off time, or need no slot any more
CanCome m (Amend plan) message = flight_of message ≡ plan.key
-- a revised flight leaves earlier
CanCome m (Revise key) (Srm other ctot reg) = (other ≡ key) × (ctot < ctot_before m key)
-- an exempted flight needs no slot
CanCome m (Exempt key) (Slc other) = other ≡ key
-- an opened regulation issues, of the flights that it takes in, those that are due
CanCome m (OpenReg id loc profile) (Sam key ctot reg) =
    (reg ≡ id) × Passes m key (λ row. may_compete m.clock row && is_due m.clock row.plan)
-- a later end issues, of the flights that it takes in, those that are due
CanCome m (Rates id profile) (Sam key ctot reg) =
    (reg ≡ id) × (extends m id profile ≡ true) × Passes m key (λ row. may_compete m.clock row && is_due m.clock row.plan)
-- a flight that a closed regulation governed goes to another one, or needs no slot any more
CanCome m (CloseReg id) (Srm key ctot reg) = (reg ≡ id → ⊥) × Passes m key (is_governed_by id)
CanCome m (CloseReg id) (Slc key) = Passes m key (is_governed_by id)
-- the clock issues what has become due, by the regulation that governs it and at the take-off time that it has
CanCome m (Tick at) (Sam key ctot reg) =
    (ctot ≡ ctot_before m key) × Passes m key (λ row. is_to_issue at row && is_governed_by reg row)
-- each of two flights that exchange their slots gets another take-off time, by the regulation that governs it
CanCome m (Swap key other) (Srm flight ctot reg) = ((flight ≡ key) ⊎ (flight ≡ other)) × Passes m flight (is_governed_by reg)
-- nothing else can come, and so nothing at all of Cancel, Show, List and Rates with the end that the regulation has
CanCome m call message = ⊥

-- the calls on a state of which no message comes (profile)
abbrev pub is_silent : State → Call → Bool
is_silent m (Cancel key) = true
is_silent m (Rates id profile) = not (extends m id profile)
is_silent m (Show key) = true
is_silent m (ListOf id) = true
is_silent m call = false

-- the flight is issued: this regulation governs it, and it leaves at this time
pub record HasSlot (m : State) (key : Text) (ctot : ℕ) (reg : Text) : Type 0 where
  pub row : Row
  pub is_filed : row_of m key ≡ Some row
  pub governs : row.governing ≡ Some reg
  pub issued : is_some row.issued ≡ true
  pub leaves : ctot_of m key row ≡ ctot

-- what a message tells, by the states before and after the call: a slot where there was none, a slot with another take-off
-- time than before, or that a flight which is still filed has no slot any more (manual)
abbrev pub TellsChange : State → State → Message → Type 0
TellsChange m n (Sam key ctot reg) = (is_issued (row_of m key) ≡ false) × HasSlot n key ctot reg
TellsChange m n (Srm key ctot reg) = (is_issued (row_of m key) ≡ true) × (ctot ≡ ctot_before m key → ⊥) × HasSlot n key ctot reg
TellsChange m n (Slc key) =
    (is_issued (row_of m key) ≡ true) × (is_some (row_of n key) ≡ true) × (is_issued (row_of n key) ≡ false)
