-- to believe: what is written for a reply, and for a line that is no call
use Rattle.std.specs.Prelude.{ℕ, List, [], ◌∷◌, ◌++◌, map, true, Option, codes}
use Rattle.std.specs.Option.{option_map_or}
use Rattle.serde_json.specs.Data.{Data, null, boolean, number, string, array, object, unsigned, Members, member, no_members}
use Rattle.serde_json.specs.View.{items_of}
use Rattle.serde_json.specs.Written.{compact_text}
use Rattle.casa_flight.specs.Refusals.{code_of, name_of}
use Rattle.casa_flight.specs.declared.reply.Answer.{Answer}
use Rattle.casa_flight.specs.declared.reply.Answer.TheVariants.{Done, Flight, List as Listing}
use Rattle.casa_flight.specs.declared.reply.FlightReply.{FlightReply}
use Rattle.casa_flight.specs.declared.reply.Kind.{Kind}
use Rattle.casa_flight.specs.declared.reply.Kind.TheVariants.{Pre, Issued, Forced}
use Rattle.casa_flight.specs.declared.reply.ListReply.{ListReply}
use Rattle.casa_flight.specs.declared.reply.ListRow.{ListRow}
use Rattle.casa_flight.specs.declared.reply.Message.{Message}
use Rattle.casa_flight.specs.declared.reply.Message.TheVariants.{Sam, Srm, Slc}
use Rattle.casa_flight.specs.declared.reply.Reply.{Reply}
use Rattle.casa_flight.specs.declared.reply.Reply.TheVariants.{Refused, Answered}
use Rattle.casa_wire.specs.declared.fault.WireFault.{WireFault}
use Rattle.casa_wire.specs.declared.fault.WireFault.TheVariants.{NotJson, NoCommand, BadField, NoMemory}
use Rattle.casa_wire.specs.Faults.{wire_fault_name}
use Rattle.casa_wire.specs.Fields.{field_name}

abbrev pub members_of : List (List ℕ × Data) → Members
members_of [] = no_members
members_of (m ∷ ms) = member m.0 m.1 (members_of ms)

-- a JSON object with these members
abbrev pub object_of : List (List ℕ × Data) → Data
object_of ms = object (members_of ms)

abbrev pub count : ℕ → Data
count n = number (unsigned n)

-- null where there is none
abbrev pub or_null : {A : Type 0} → (A → Data) → Option A → Data
or_null written found = option_map_or written found null

abbrev pub list_of : {A : Type 0} → (A → Data) → List A → Data
list_of written xs = array (items_of (map written xs))

-- a message of this kind, with the calculated take-off time and the governing regulation
abbrev pub slot_data : List ℕ → List ℕ → ℕ → List ℕ → Data
slot_data kind key ctot reg = object_of (
    (codes "ctot", count ctot) ∷ (codes "key", string key) ∷ (codes "kind", string kind) ∷ (codes "reg", string reg) ∷ [])

abbrev pub message_data : Message → Data
message_data (Sam key ctot reg) = slot_data (codes "SAM") key ctot reg
message_data (Srm key ctot reg) = slot_data (codes "SRM") key ctot reg
message_data (Slc key) = object_of ((codes "key", string key) ∷ (codes "kind", string (codes "SLC")) ∷ [])

abbrev pub messages_data : List Message → Data
messages_data ms = list_of message_data ms

abbrev pub flight_data : FlightReply → Data
flight_data f = object_of (
    (codes "ctot", count f.ctot) ∷
    (codes "delay", count f.delay) ∷
    (codes "eobt", count f.eobt) ∷
    (codes "etot", count f.etot) ∷
    (codes "exempt", boolean f.exempt) ∷
    (codes "issued", boolean f.issued) ∷
    (codes "key", string f.key) ∷
    (codes "reg", or_null string f.reg) ∷ [])

abbrev pub kind_name : Kind → List ℕ
kind_name Pre = codes "pre"
kind_name Issued = codes "issued"
kind_name Forced = codes "forced"

abbrev pub row_data : ListRow → Data
row_data r = object_of (
    (codes "cto", count r.cto) ∷
    (codes "eto", count r.eto) ∷
    (codes "key", string r.key) ∷
    (codes "kind", string (kind_name r.kind)) ∷
    (codes "slot", or_null count r.slot) ∷ [])

abbrev pub list_data : ListReply → Data
list_data l = object_of (
    (codes "end", count l.end) ∷
    (codes "loc", string l.loc) ∷
    (codes "reg", string l.reg) ∷
    (codes "rows", list_of row_data l.rows) ∷
    (codes "slots", count l.slots) ∷
    (codes "start", count l.start) ∷ [])

-- an answer with its messages and the position of its entry in the history
abbrev pub answer_data : Answer → List Message → ℕ → Data
answer_data Done ms n =
    object_of ((codes "done", boolean true) ∷ (codes "msgs", messages_data ms) ∷ (codes "n", count n) ∷ [])
answer_data (Flight f) ms n =
    object_of ((codes "flight", flight_data f) ∷ (codes "msgs", messages_data ms) ∷ (codes "n", count n) ∷ [])
answer_data (Listing l) ms n =
    object_of ((codes "list", list_data l) ∷ (codes "msgs", messages_data ms) ∷ (codes "n", count n) ∷ [])

abbrev pub reply_data : Reply → ℕ → Data
reply_data (Refused r) n =
    object_of ((codes "code", count (code_of r)) ∷ (codes "n", count n) ∷ (codes "refused", string (name_of r)) ∷ [])
reply_data (Answered answer ms) n = answer_data answer ms n

-- a line of output: the value in compact form, and LF
abbrev pub line_of : Data → List ℕ
line_of d = compact_text d ++ 10 ∷ []

-- the line of a reply, with the position of its entry in the history
abbrev pub reply_line : Reply → ℕ → List ℕ
reply_line reply n = line_of (reply_data reply n)

abbrev pub fault_data : WireFault → Data
fault_data NotJson = object_of ((codes "fault", string (wire_fault_name NotJson)) ∷ [])
fault_data NoCommand = object_of ((codes "fault", string (wire_fault_name NoCommand)) ∷ [])
fault_data (BadField field) = object_of (
    (codes "fault", string (wire_fault_name (BadField field))) ∷
    (codes "field", string (field_name field)) ∷ [])
fault_data NoMemory = null

-- the text of a fault; none is written where memory is refused
abbrev pub fault_text : WireFault → List ℕ
fault_text fault = compact_text (fault_data fault)

abbrev pub fault_line : WireFault → List ℕ
fault_line fault = line_of (fault_data fault)

-- the text of a fault that has the same text always; empty for the other faults
abbrev pub fixed_text : WireFault → List ℕ
fixed_text NotJson = fault_text NotJson
fixed_text NoCommand = fault_text NoCommand
fixed_text (BadField field) = []
fixed_text NoMemory = []

-- the line for a line that is too long
abbrev pub too_long_line : List ℕ
too_long_line = line_of (object_of ((codes "fault", string (codes "LineTooLong")) ∷ []))
