-- the messages of a change
use Rattle.std.proofs.Common.{◌≡◌, sym, ap, ◌∙◌, Option, None, Some, is_some, unwrap_or}
use Rattle.std.specs.Option.{option_map_or, option_and_then}
use Rattle.std.specs.List.{filter_map}
use Rattle.casa_flight.specs.declared.reply.Message.{Message}
use Rattle.casa_flight.specs.declared.row.Row.{Row}
use Rattle.casa_flight.specs.declared.state.State.{State}
use Rattle.casa_filing.specs.Text.{Text, at_name}
use Rattle.casa_flight.specs.State.{row_of}
use Rattle.casa_flight.specs.Listing.{list_of}
use Rattle.casa_flight.specs.Replies.{is_issued, message_of, message, messages}
use Rattle.casa_flight.specs.Good.{AreInOrder, IsGood}
use Rattle.casa_laws.proofs.ChangeMessages.{StaysOpen, message_none}
use Rattle.casa_plan_spec.specs.Sight.{Sight, Written, nothing_written, list_with, list_in, row_in}
use Rattle.casa_plan_spec.specs.Messages.{ctot_by, message_shown, messages_shown}
use Rattle.casa_plan_spec.proofs.Board.{Shows}
use Rattle.casa_plan_spec.proofs.Over.{filter_map-over}

-- the message to a flight, from the view and the change
pub message_is : (m n : State) (v : Sight) (w : Written) → Shows v nothing_written m → Shows v w n → (key : Text) (row : Row) → message m n key row ≡ message_shown v w key row
message_is m n v w before after key row =
    let row_before : row_of m key ≡ row_in v key = sym (before.rows key) in
    let list_before : (id : Text) → list_of m id ≡ list_in v id = λ id. sym (before.lists id) in
    let list_after : (id : Text) → list_of n id ≡ list_with v w id = λ id. sym (after.lists id) in
    λ i. message_of key row.governing (is_issued (row_before i)) (is_some row.issued)
    (option_map_or (ctot_by (λ id. list_before id i) key) (row_before i) 0) (ctot_by (λ id. list_after id i) key row)

-- the messages of a change are those to the flights that it writes
pub messages_are : (m n : State) (v : Sight) (w : Written) → IsGood m → AreInOrder n.rows → AreInOrder w.rows → Shows v nothing_written m → Shows v w n
    → ((key id : Text) (row : Row) → at_name w.rows key ≡ None → row_of n key ≡ Some row → row.governing ≡ Some id → StaysOpen m n id)
    → messages m n ≡ messages_shown v w
messages_are m n v w good sorted written before after stays =
    filter_map-over (λ k row. message m n k row) n.rows (row_in v) w.rows sorted written after.rows
    (λ q row none found. message_none m n q row good sorted (λ id g. stays q id row none found g) (sym (before.rows q) ∙ sym (ap (λ (o : Option (Option Row)). unwrap_or o (row_in v q)) none) ∙ after.rows q ∙ found) found)
    ∙ ap (λ (f : Text → Row → Option Message). filter_map (λ (e : Text × Option Row). option_and_then (f e.0) e.1) w.rows) (λ i k row. message_is m n v w before after k row i)
