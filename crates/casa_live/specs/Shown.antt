-- to believe: what a browser is shown of a history
use Rattle.std.specs.Prelude.{◌≡◌, ℕ, List, ◌++◌, length, take, drop, nat_lt, Bool, Option, None, Some, if◌then◌else◌}
use Rattle.std.specs.List.{count_by}
use Rattle.std.specs.Option.{option_map}
use mathlib.Core.List.{IsPrefix}
use Rattle.casa_filing.specs.declared.regulation.Measure.{Measure}
use Rattle.casa_filing.specs.Subject.{regulation}
use Rattle.casa_filing.specs.Text.{Text, is_name}
use Rattle.casa_flight.specs.declared.call.Call.{Call}
use Rattle.casa_flight.specs.declared.reply.ListReply.{ListReply}
use Rattle.casa_flight.specs.declared.reply.Reply.{Reply}
use Rattle.casa_flight.specs.declared.row.Row.{Row}
use Rattle.casa_flight.specs.declared.state.State.{State}
use Rattle.casa_flight.specs.Listing.{listing}
use Rattle.casa_flight.specs.Replies.{list_reply}
use Rattle.casa_flight.specs.State.{measure_of, row_of}
use Rattle.casa_footprint.specs.Stamps.{state_after}
use Rattle.casa_history.specs.declared.entry.Entry.{Entry}
use Rattle.casa_http.specs.Question.{Question, whole_state, list_named, flight_named, calls_behind, server_metrics, lines_tried}
use Rattle.casa_inquiry.specs.Exchanges.{exchanges}
use Rattle.casa_inquiry.specs.Why.{why}
use Rattle.casa_look.specs.FlightText.{flight_text}
use Rattle.casa_look.specs.ListText.{list_text}
use Rattle.casa_look.specs.SinceText.{since_text}
use Rattle.casa_look.specs.StateText.{open_regulations, state_text}
use Rattle.casa_look.specs.TriedText.{states_line}
use Rattle.casa_plan.specs.Rooms.{IsSequential}
use Rattle.casa_session.specs.Alone.{transcript_after}
use Rattle.casa_session.specs.Lines.{is_lf, lines_of}
use Rattle.casa_session.specs.Played.{calls_in, state_after_calls}
use Rattle.casa_session.specs.Transcript.{calls}
use Rattle.casa_live.specs.declared.gauges.Reading.{Reading}
use Rattle.casa_live.specs.Metrics.{metrics_text}

-- the most entries of which it is told at once what came of them; a browser asks again from the position that it got
abbrev pub most_entries : ℕ
most_entries = 1000

-- the list of an open regulation, as a reply to `list` has it
abbrev pub list_in : State → Text → Option ListReply
list_in m id = option_map (λ (measure : Measure). list_reply m (regulation id measure) (listing m.rows id measure)) (measure_of m id)

-- of so many calls and a state: the list of the regulation that is open under a name
abbrev pub list_shown : ℕ → State → Text → Option Text
list_shown calls m name = if is_name name then option_map (list_text calls) (list_in m name) else None

-- a flight that is filed, with why it stands as it does and with which flights it could exchange its slot now
abbrev pub flight_in : ℕ → State → Text → Option Text
flight_in calls m key = option_map (λ (row : Row). flight_text calls row.plan (why m key row) (exchanges m key)) (row_of m key)

-- and the flight that is filed under a name
abbrev pub flight_shown : ℕ → State → Text → Option Text
flight_shown calls m name = if is_name name then flight_in calls m name else None

-- what came of the first entries behind a position, which is one of the history
abbrev pub news_shown : List (Entry Call Reply) → ℕ → Option Text
news_shown history position =
    if nat_lt (length history) position then None else Some (since_text position (take most_entries (drop position history)))

-- the most line feeds of lines that are tried at once (profile)
abbrev pub most_tried : ℕ
most_tried = 64

abbrev pub are_too_many : (lines : List ℕ) → Bool
are_too_many lines = nat_lt most_tried (count_by is_lf lines)

-- what comes of lines after some calls: the replies that a desk gets for them that is alone after these calls, and a line with
-- the states before and after
abbrev pub tried_text : (before : List Call) → (lines : List ℕ) → Text
tried_text before lines =
    let after = before ++ calls (lines_of lines) in
    transcript_after before (lines_of lines)
    ++ states_line (length before) (state_after_calls before) (length after) (state_after_calls after)

-- what would come of lines after the calls of a history, where they are not too many
abbrev pub tried_shown : List (Entry Call Reply) → (lines : List ℕ) → Option Text
tried_shown history lines = if are_too_many lines then None else Some (tried_text (calls_in history) lines)

-- what is found of a history where this is asked
abbrev pub Shows : List (Entry Call Reply) → Question → Option Text → Type 0
Shows history whole_state found =
    found ≡ Some (state_text (length history) (state_after history).clock (open_regulations (state_after history)))
Shows history (list_named name) found = found ≡ list_shown (length history) (state_after history) name
Shows history (flight_named name) found = found ≡ flight_shown (length history) (state_after history) name
Shows history (calls_behind position) found = found ≡ news_shown history position
Shows history (lines_tried lines) found = found ≡ tried_shown history lines
Shows history server_metrics found = (reading : Reading) × (found ≡ Some (metrics_text history reading))

-- who had seen one history has now seen another, which is of one thread and begins with it, and this is found of it
pub record IsShownBehind (seen now : List (Entry Call Reply)) (question : Question) (found : Option Text) : Type 0 where
  pub sequential : IsSequential now
  pub longer : IsPrefix seen now
  pub shown : Shows now question found
