-- inner contracts: delays, take-off times and messages, by what a view shows
use Rattle.std.specs.Prelude.{ℕ, ◌+◌, List, Option, is_some}
use Rattle.std.specs.Option.{option_map_or, option_and_then}
use Rattle.std.specs.List.{filter_map}
use Rattle.casa_flight.specs.declared.reply.Message.{Message}
use Rattle.casa_flight.specs.declared.reply.Answer.TheVariants.{Done}
use Rattle.casa_flight.specs.declared.reply.Reply.{Reply}
use Rattle.casa_flight.specs.declared.reply.Reply.TheVariants.{Answered}
use Rattle.casa_flight.specs.declared.row.Row.{Row}
use Rattle.casa_filing.specs.Text.{Text}
use Rattle.casa_filing.specs.FlightPlan.{etot}
use Rattle.casa_flight.specs.Listing.{Listing, delay_in}
use Rattle.casa_flight.specs.Replies.{is_issued, message_of}
use Rattle.casa_plan_spec.specs.Sight.{Sight, Written, list_with, list_in, row_in}

-- a flight's delay and its calculated take-off time, by these lists
abbrev pub delay_by : (Text → Option Listing) → Text → Row → ℕ
delay_by lists key row = option_map_or (λ (l : Listing). delay_in l key) (option_and_then lists row.governing) 0

abbrev pub ctot_by : (Text → Option Listing) → Text → Row → ℕ
ctot_by lists key row = etot row.plan + delay_by lists key row

-- the calculated take-off time of a flight as a view shows it
abbrev pub ctot_shown : Sight → Text → ℕ
ctot_shown v key = option_map_or (ctot_by (λ id. list_in v id) key) (row_in v key) 0

-- the message to the operator of a flight that a change writes
abbrev pub message_shown : Sight → Written → Text → Row → Option Message
message_shown v w key row =
    let ctot : ℕ = ctot_by (list_with v w) key row in
    message_of key row.governing (is_issued (row_in v key)) (is_some row.issued) (ctot_shown v key) ctot

abbrev pub messages_shown : Sight → Written → List Message
messages_shown v w = filter_map (λ (e : Text × Option Row). option_and_then (message_shown v w e.0) e.1) w.rows

-- the answer to a call that writes this and is answered by no more than that it was done
abbrev pub answer_done : Sight → Written → Reply × Written
answer_done v w = (Answered Done (messages_shown v w), w)
