-- to believe: slot messages, each with the call that caused it, as comma-separated values and as JSON
use Rattle.std.specs.Prelude.{ℕ, List, [], ◌∷◌, Option, None, Some, codes, decimal}
use Rattle.std.specs.List.{flat_map}
use Rattle.serde_json.specs.Data.{Data, string}
use Rattle.jiff_core.specs.declared.civil.date.Date.{Date}
use Rattle.casa_filing.specs.Text.{Text}
use Rattle.casa_flight.specs.declared.reply.Message.{Message}
use Rattle.casa_flight.specs.declared.reply.Message.TheVariants.{Sam, Srm, Slc}
use Rattle.casa_selection.specs.declared.messages.CausedMessage.{CausedMessage}
use Rattle.casa_wire.specs.LineTexts.{count, line_of, object_of}
use Rattle.casa_report.specs.Csv.{Field, csv, or_empty}
use Rattle.casa_report.specs.Moments.{moment_text}

abbrev pub message_kind : Message → Text
message_kind (Sam key ctot reg) = codes "SAM"
message_kind (Srm key ctot reg) = codes "SRM"
message_kind (Slc key) = codes "SLC"

abbrev pub message_key : Message → Text
message_key (Sam key ctot reg) = key
message_key (Srm key ctot reg) = key
message_key (Slc key) = key

-- the calculated take-off time and the regulation; a cancellation has neither
abbrev pub message_ctot : Message → Option ℕ
message_ctot (Sam key ctot reg) = Some ctot
message_ctot (Srm key ctot reg) = Some ctot
message_ctot (Slc key) = None

abbrev pub message_reg : Message → Option Text
message_reg (Sam key ctot reg) = Some reg
message_reg (Srm key ctot reg) = Some reg
message_reg (Slc key) = None

abbrev pub message_fields : Date → List (Field CausedMessage)
message_fields day =
    record { title = codes "N"; value = λ m. decimal m.call } ∷
    record { title = codes "MESSAGE"; value = λ m. message_kind m.message } ∷
    record { title = codes "KEY"; value = λ m. message_key m.message } ∷
    record { title = codes "CTOT"; value = λ m. or_empty (moment_text day) (message_ctot m.message) } ∷
    record { title = codes "REG"; value = λ m. or_empty (λ (reg : Text). reg) (message_reg m.message) } ∷ []

-- a record for each message, in their order
abbrev pub messages_csv : Date → List CausedMessage → Text
messages_csv day messages = csv (message_fields day) messages

-- a message as a reply has it, with the number of its call
abbrev pub slot_message_data : Text → Text → ℕ → Text → ℕ → Data
slot_message_data kind key ctot reg number = object_of (
    (codes "ctot", count ctot) ∷ (codes "key", string key) ∷ (codes "kind", string kind) ∷
    (codes "n", count number) ∷ (codes "reg", string reg) ∷ [])

abbrev pub cancellation_data : Text → ℕ → Data
cancellation_data key number =
    object_of ((codes "key", string key) ∷ (codes "kind", string (codes "SLC")) ∷ (codes "n", count number) ∷ [])

abbrev pub numbered_data : ℕ → Message → Data
numbered_data number (Sam key ctot reg) = slot_message_data (codes "SAM") key ctot reg number
numbered_data number (Srm key ctot reg) = slot_message_data (codes "SRM") key ctot reg number
numbered_data number (Slc key) = cancellation_data key number

-- a line for each message, in their order
abbrev pub message_line : CausedMessage → Text
message_line m = line_of (numbered_data m.call m.message)

abbrev pub messages_json : List CausedMessage → Text
messages_json messages = flat_map message_line messages
