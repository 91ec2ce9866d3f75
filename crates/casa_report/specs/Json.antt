-- to believe: what a flow manager reads, as JSON: times are seconds from midnight UTC
use Rattle.std.specs.Prelude.{List, [], ◌∷◌, codes}
use Rattle.serde_json.specs.Data.{Data, string}
use Rattle.jiff.specs.Words.{date_text}
use Rattle.jiff_core.specs.declared.civil.date.Date.{Date}
use Rattle.casa_filing.specs.Text.{Text}
use Rattle.casa_flight.specs.declared.reply.ListReply.{ListReply}
use Rattle.casa_inquiry.specs.declared.load.Step.{Step}
use Rattle.casa_inquiry.specs.Summary.{cost_of, mean_delay}
use Rattle.casa_wire.specs.LineTexts.{count, line_of, list_data, list_of, object_of, or_null}
use Rattle.casa_json.specs.Lists.{report_row_data, step_data}
use Rattle.casa_selection.specs.declared.rows.ReportRow.{ReportRow}

-- a day, as "2025-06-01"
abbrev pub day_data : Date → Data
day_data day = string (date_text day)

-- the list as a reply to `list` has it
abbrev pub report_data : Date → Text → ListReply → Data
report_data day reg list = object_of (
    (codes "day", day_data day) ∷ (codes "list", list_data list) ∷ (codes "reg", string reg) ∷ [])

-- the lists of all regulations, each in the same way
abbrev pub reports_data : Date → List ListReply → Data
reports_data day lists = object_of ((codes "day", day_data day) ∷ (codes "lists", list_of list_data lists) ∷ [])

-- rows of whichever lists, in their order
abbrev pub rows_data : Date → List ReportRow → Data
rows_data day rows = object_of ((codes "day", day_data day) ∷ (codes "rows", list_of report_row_data rows) ∷ [])

abbrev pub load_data : Date → Text → List Step → Data
load_data day reg steps = object_of (
    (codes "day", day_data day) ∷ (codes "reg", string reg) ∷ (codes "steps", list_of step_data steps) ∷ [])

-- what a regulation costs, by its list
abbrev pub cost_data : ListReply → Data
cost_data list = object_of (
    (codes "delay", count (cost_of list).delay) ∷
    (codes "forced", count (cost_of list).forced) ∷
    (codes "from", count list.start) ∷
    (codes "governed", count (cost_of list).governed) ∷
    (codes "issued", count (cost_of list).issued) ∷
    (codes "loc", string list.loc) ∷
    (codes "longest", count (cost_of list).longest) ∷
    (codes "mean", or_null count (mean_delay (cost_of list))) ∷
    (codes "over", count (cost_of list).over) ∷
    (codes "reg", string list.reg) ∷
    (codes "slots", count (cost_of list).slots) ∷
    (codes "to", count list.end) ∷ [])

abbrev pub summary_data : Date → List ListReply → Data
summary_data day lists = object_of ((codes "day", day_data day) ∷ (codes "regs", list_of cost_data lists) ∷ [])

-- each text is one line
abbrev pub report_json : Date → Text → ListReply → Text
report_json day reg list = line_of (report_data day reg list)

abbrev pub reports_json : Date → List ListReply → Text
reports_json day lists = line_of (reports_data day lists)

abbrev pub rows_json : Date → List ReportRow → Text
rows_json day rows = line_of (rows_data day rows)

abbrev pub load_json : Date → Text → List Step → Text
load_json day reg steps = line_of (load_data day reg steps)

abbrev pub summary_json : Date → List ListReply → Text
summary_json day lists = line_of (summary_data day lists)
