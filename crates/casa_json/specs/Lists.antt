-- to believe: what is said of a regulation from row to row, as JSON: times are seconds from midnight UTC
use Rattle.std.specs.Prelude.{[], ◌∷◌, codes}
use Rattle.serde_json.specs.Data.{Data, string}
use Rattle.casa_grid.specs.declared.period.Period.{Period}
use Rattle.casa_inquiry.specs.declared.load.Step.{Step}
use Rattle.casa_wire.specs.LineTexts.{count, kind_name, object_of, or_null}
use Rattle.casa_selection.specs.declared.rows.ReportRow.{ReportRow}
use Rattle.casa_selection.specs.Rows.{delay_in_list}

-- a row as a list has it, with its delay and its regulation
abbrev pub report_row_data : ReportRow → Data
report_row_data r = object_of (
    (codes "cto", count r.row.cto) ∷
    (codes "delay", count (delay_in_list r.row)) ∷
    (codes "eto", count r.row.eto) ∷
    (codes "key", string r.row.key) ∷
    (codes "kind", string (kind_name r.row.kind)) ∷
    (codes "reg", string r.reg) ∷
    (codes "slot", or_null count r.row.slot) ∷ [])

-- a step of demand and capacity
abbrev pub step_data : Step → Data
step_data s = object_of (
    (codes "calculated", count s.calculated) ∷
    (codes "from", count s.span.from) ∷
    (codes "planned", count s.planned) ∷
    (codes "slots", count s.slots) ∷
    (codes "to", or_null count s.span.until) ∷ [])

-- a period as in a command line
abbrev pub period_data : Period → Data
period_data p = object_of ((codes "from", count p.begin) ∷ (codes "rate", count p.rate) ∷ (codes "to", count p.until) ∷ [])
