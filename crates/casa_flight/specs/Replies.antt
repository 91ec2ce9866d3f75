-- to believe: replies: flights and lists as they are answered, and messages
use Rattle.std.specs.Prelude.{ℕ, ◌+◌, List, length, map, Bool, true, false, ◌&&◌, ◌||◌, ◌==◌, nat_lt, Option, None, Some, is_some, if◌then◌else◌}
use Rattle.std.specs.Option.{option_map_or}
use Rattle.std.specs.List.{filter_map}
use Rattle.std.specs.Cmp.Lexicographic.{slice_cmp}
use Rattle.std.specs.Ordering.{nat_cmp, is_lt}
use Rattle.casa_grid.specs.declared.slot.Place.{Place}
use Rattle.casa_grid.specs.declared.slot.Place.TheVariants.{Slot, Over}
use Rattle.casa_grid.specs.Slots.{slots, window_of}
use Rattle.casa_flight.specs.declared.call.Call.{Call}
use Rattle.casa_flight.specs.declared.call.Call.TheVariants.{File, Amend, Cancel, Revise, Exempt, OpenReg, CloseReg, Rates, Tick, Show, List as ListOf, Swap}
use Rattle.casa_filing.specs.declared.regulation.Measure.{Measure}
use Rattle.casa_filing.specs.declared.regulation.Regulation.{Regulation}
use Rattle.casa_flight.specs.declared.reply.Answer.{Answer}
use Rattle.casa_flight.specs.declared.reply.Answer.TheVariants.{Done, Flight, List as ListAnswer}
use Rattle.casa_flight.specs.declared.reply.FlightReply.{FlightReply}
use Rattle.casa_flight.specs.declared.reply.Kind.{Kind}
use Rattle.casa_flight.specs.declared.reply.Kind.TheVariants.{Pre, Issued as IssuedKind, Forced as ForcedKind}
use Rattle.casa_flight.specs.declared.reply.ListReply.{ListReply}
use Rattle.casa_flight.specs.declared.reply.ListRow.{ListRow}
use Rattle.casa_flight.specs.declared.reply.Message.{Message}
use Rattle.casa_flight.specs.declared.reply.Message.TheVariants.{Sam, Srm, Slc}
use Rattle.casa_flight.specs.declared.reply.Reply.{Reply}
use Rattle.casa_flight.specs.declared.reply.Reply.TheVariants.{Refused, Answered}
use Rattle.casa_flight.specs.declared.row.Row.{Row}
use Rattle.casa_flight.specs.declared.row.Stance.{Stance}
use Rattle.casa_flight.specs.declared.row.Stance.TheVariants.{Competing, Issued, Forced}
use Rattle.casa_flight.specs.declared.state.State.{State}
use Rattle.casa_filing.specs.Text.{Text}
use Rattle.casa_filing.specs.FlightPlan.{etot}
use Rattle.casa_filing.specs.Subject.{regulation}
use Rattle.casa_flight.specs.State.{row_of, measure_of, is_exempt}
use Rattle.casa_flight.specs.Listing.{Listing, listing, sorted_by, cto_as, place_of, delay_of, ctot_of}
use Rattle.casa_flight.specs.Steps.{Step, refused, leads, step}

-- a flight as it is answered, with this delay
abbrev pub flight_with : Text → Row → ℕ → FlightReply
flight_with key row delay = record {
  key = key;
  eobt = row.plan.eobt;
  etot = etot row.plan;
  ctot = etot row.plan + delay;
  delay = delay;
  exempt = is_exempt row;
  issued = is_some row.issued;
  reg = row.governing;
}

-- with the delay that it has
abbrev pub flight_reply : State → Text → Row → FlightReply
flight_reply m key row = flight_with key row (delay_of m key row)

abbrev pub flight_answer : State → Text → Answer
flight_answer m key = option_map_or (λ (row : Row). Flight (flight_reply m key row)) (row_of m key) Done

abbrev pub slot_number : Place → Option ℕ
slot_number (Slot k) = Some k
slot_number Over = None

-- what a list says of how a flight stands
abbrev pub kind_of : Stance → Kind
kind_of (Competing eto) = Pre
kind_of (Issued eto cto) = IssuedKind
kind_of (Forced eto) = ForcedKind

-- a forced flight passes with the delay that it has at its governing regulation
abbrev pub forced_time : State → Text → ℕ → ℕ
forced_time m key eto = eto + option_map_or (delay_of m key) (row_of m key) 0

-- a flight as its list shows it
abbrev pub row_in : State → Listing → Text → Stance → ListRow
row_in m l key (Competing eto) =
    record { key = key; eto = eto; cto = cto_as l key (Competing eto); kind = Pre; slot = slot_number (place_of l key) }
row_in m l key (Issued eto cto) =
    record { key = key; eto = eto; cto = cto; kind = IssuedKind; slot = window_of (slots l.profile) cto }
row_in m l key (Forced eto) =
    record { key = key; eto = eto; cto = forced_time m key eto; kind = ForcedKind; slot = None }

-- rows come by calculated time over, and by key among equal times
abbrev pub is_row_before : ListRow → ListRow → Bool
is_row_before a b = nat_lt a.cto b.cto || ((a.cto == b.cto) && is_lt (slice_cmp nat_cmp a.key b.key))

abbrev pub list_rows : State → Listing → List ListRow
list_rows m l = sorted_by is_row_before (map (λ (e : Text × Stance). row_in m l e.0 e.1) l.flights)

abbrev pub list_reply : State → Regulation → Listing → ListReply
list_reply m r l =
    record { reg = r.id; loc = r.loc; start = r.start; end = r.end; slots = length (slots l.profile); rows = list_rows m l }

abbrev pub list_answer : State → Text → Answer
list_answer m id =
    option_map_or (λ (measure : Measure). ListAnswer (list_reply m (regulation id measure) (listing m.rows id measure))) (measure_of m id) Done

-- the answer of an accepted call, in the state that it led to: a flight is answered as it stands afterwards
abbrev pub answer : State → Call → Answer
answer m (File plan) = flight_answer m plan.key
answer m (Amend plan) = flight_answer m plan.key
answer m (Cancel key) = Done
answer m (Revise key) = flight_answer m key
answer m (Exempt key) = flight_answer m key
answer m (OpenReg id loc profile) = Done
answer m (CloseReg id) = Done
answer m (Rates id profile) = Done
answer m (Tick at) = Done
answer m (Show key) = flight_answer m key
answer m (ListOf id) = list_answer m id
answer m (Swap key other) = Done

abbrev pub is_issued : Option Row → Bool
is_issued row = option_map_or (λ (r : Row). is_some r.issued) row false

-- the message to the operator of a flight, by its governing regulation now, whether it was issued before and is now, and
-- its calculated take-off times before and now: SAM, SRM and SLC (manual)
abbrev pub message_of : Text → Option Text → Bool → Bool → ℕ → ℕ → Option Message
message_of key reg false false old new = None
message_of key reg true false old new = Some (Slc key)
message_of key None was true old new = None
message_of key (Some reg) false true old new = Some (Sam key new reg)
message_of key (Some reg) true true old new = if old == new then None else Some (Srm key new reg)

abbrev pub ctot_before : State → Text → ℕ
ctot_before m key = option_map_or (ctot_of m key) (row_of m key) 0

abbrev pub message : State → State → Text → Row → Option Message
message m n key row =
    message_of key row.governing (is_issued (row_of m key)) (is_some row.issued) (ctot_before m key) (ctot_of n key row)

-- the messages of a change from one state to another, in the order of the keys
abbrev pub messages : State → State → List Message
messages m n = filter_map (λ (e : Text × Row). message m n e.0 e.1) n.rows

abbrev pub reply_of : State → Call → Step → Reply
reply_of m call (refused r) = Refused r
reply_of m call (leads n) = Answered (answer n call) (messages m n)

-- what the sequential allocator replies
abbrev pub reply : State → Call → Reply
reply m call = reply_of m call (step m call)
