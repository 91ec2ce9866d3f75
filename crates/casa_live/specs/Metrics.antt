-- to believe: the metrics of a server, in the text format of Prometheus
use Rattle.std.specs.Prelude.{ℕ, List, [], ◌∷◌, ◌++◌, length, flat_map, count_by, codes, decimal, Bool, true, false, ◌&&◌}
use Rattle.casa_filing.specs.Text.{Text, same_text}
use Rattle.casa_flight.specs.declared.call.Call.{Call}
use Rattle.casa_flight.specs.declared.call.Call.TheVariants.{File, Amend, Cancel, Revise, Exempt, OpenReg, CloseReg, Rates, Tick, Show, List as ListOf, Swap}
use Rattle.casa_flight.specs.declared.reply.Reply.{Reply}
use Rattle.casa_flight.specs.declared.reply.Reply.TheVariants.{Refused, Answered}
use Rattle.casa_footprint.specs.Stamps.{state_after}
use Rattle.casa_history.specs.declared.entry.Entry.{Entry}
use Rattle.casa_live.specs.declared.gauges.Reading.{Reading}

-- the command of a call, as lines name it
abbrev pub command_of : Call → Text
command_of (File plan) = codes "file"
command_of (Amend plan) = codes "amend"
command_of (Cancel key) = codes "cancel"
command_of (Revise key) = codes "revise"
command_of (Exempt key) = codes "exempt"
command_of (Show key) = codes "show"
command_of (OpenReg id loc profile) = codes "open"
command_of (CloseReg id) = codes "close"
command_of (Rates id profile) = codes "rates"
command_of (ListOf id) = codes "list"
command_of (Tick at) = codes "tick"
command_of (Swap key other) = codes "swap"

-- all commands
abbrev pub commands : List Text
commands =
    codes "file" ∷ codes "amend" ∷ codes "cancel" ∷ codes "revise" ∷ codes "exempt" ∷ codes "show"
    ∷ codes "open" ∷ codes "close" ∷ codes "rates" ∷ codes "list" ∷ codes "tick" ∷ codes "swap" ∷ []

-- whether an entry is of a call with this command
abbrev pub is_call : Text → Entry Call Reply → Bool
is_call command entry = same_text command (command_of entry.call)

abbrev pub is_refused : Reply → Bool
is_refused (Refused refusal) = true
is_refused (Answered answer messages) = false

-- whether it is of one that was refused
abbrev pub is_refusal : Text → Entry Call Reply → Bool
is_refusal command entry = is_call command entry && is_refused entry.reply

-- how many calls of a history have this command
abbrev pub calls_in : List (Entry Call Reply) → Text → ℕ
calls_in history command = count_by (is_call command) history

-- how many of these were refused
abbrev pub refusals_in : List (Entry Call Reply) → Text → ℕ
refusals_in history command = count_by (is_refusal command) history

-- what stands before a metric's values: what it says, and its kind
abbrev pub heading : (name kind help : Text) → Text
heading name kind help =
    codes "# HELP " ++ name ++ codes " " ++ help ++ codes "\n# TYPE " ++ name ++ codes " " ++ kind ++ codes "\n"

-- a value
abbrev pub sample : (series : Text) → ℕ → Text
sample series value = series ++ codes " " ++ decimal value ++ codes "\n"

-- a value for a command
abbrev pub command_sample : (name : Text) → (Text → ℕ) → (command : Text) → Text
command_sample name value command = sample (name ++ codes "{command=\"" ++ command ++ codes "\"}") (value command)

-- a metric with a value for each command, which only rises
abbrev pub counter : (name help : Text) → (Text → ℕ) → Text
counter name help value = heading name (codes "counter") help ++ flat_map (command_sample name value) commands

-- a metric with one value
abbrev pub gauge : (name help : Text) → ℕ → Text
gauge name help value = heading name (codes "gauge") help ++ sample name value

-- the metrics behind a history, by what the server tells of itself
abbrev pub metrics_text : List (Entry Call Reply) → Reading → Text
metrics_text history reading =
    counter (codes "casa_calls_total") (codes "Calls that were answered, refused ones too.") (calls_in history)
    ++ counter (codes "casa_refusals_total") (codes "Calls that were refused.") (refusals_in history)
    ++ gauge (codes "casa_entries") (codes "Entries of the history.") (length history)
    ++ gauge (codes "casa_clock_seconds") (codes "The clock, in seconds from midnight UTC.") (state_after history).clock
    ++ gauge (codes "casa_desks") (codes "Desks that have a connection.") reading.desks
    ++ gauge (codes "casa_connections") (codes "Connections that are open.") reading.connections
