-- to believe: the lines of a journal
use Rattle.std.specs.Prelude.{ℕ, List, [], ◌∷◌, ◌++◌, codes}
use Rattle.serde_json.specs.Data.{Data}
use Rattle.serde_json.specs.Written.{compact_text}
use Rattle.casa_flight.specs.declared.call.Call.{Call}
use Rattle.casa_flight.specs.declared.reply.Reply.{Reply}
use Rattle.casa_history.specs.declared.entry.Entry.{Entry}
use Rattle.casa_wire.specs.LineTexts.{count}
use Rattle.casa_lines.specs.Lines.{Member, object_with, call_members}
use Rattle.casa_script.specs.declared.line.Label.{Label}
use Rattle.casa_script.specs.Sums.{reply_sum}

-- a label: the position, the desk, the version of the rules and the sum of the reply
abbrev pub label_members : Label → List Member
label_members label =
    (codes "n", count label.position) ∷
    (codes "desk", count label.desk) ∷
    (codes "rules", count label.rules) ∷
    (codes "sum", count label.sum) ∷ []

-- a line is one JSON object: the command, and beside its members those of the label
abbrev pub line_data : Label → Call → Data
line_data label call = object_with (call_members call ++ label_members label)

-- its text, in compact form and with no line end
abbrev pub line_text : Label → Call → List ℕ
line_text label call = compact_text (line_data label call)

-- the version of the rules by which this program answers
abbrev pub present_rules : ℕ
present_rules = 1

-- the label of an entry that this program made, at its position in the history
abbrev pub entry_label : ℕ → Entry Call Reply → Label
entry_label position entry =
    record { position = position; desk = entry.desk; rules = present_rules; sum = reply_sum entry.reply position }

-- the line of an entry at its position in the history
abbrev pub entry_text : ℕ → Entry Call Reply → List ℕ
entry_text position entry = line_text (entry_label position entry) entry.call
