-- to believe: what differs between two days, as JSON: times are seconds from midnight UTC
use Rattle.std.specs.Prelude.{[], ◌∷◌, codes}
use Rattle.serde_json.specs.Data.{Data, string}
use Rattle.jiff_core.specs.declared.civil.date.Date.{Date}
use Rattle.casa_filing.specs.Text.{Text}
use Rattle.casa_inquiry.specs.Summary.{mean_delay}
use Rattle.casa_wire.specs.LineTexts.{count, line_of, list_of, object_of, or_null}
use Rattle.casa_report.specs.Json.{day_data}
use Rattle.casa_difference.specs.declared.comparison.Comparison.{Comparison}
use Rattle.casa_difference.specs.declared.flights.Difference.{Difference}
use Rattle.casa_difference.specs.declared.standing.Standing.{Standing}
use Rattle.casa_difference.specs.declared.totals.Totals.{Totals}

-- what all regulations of a day cost together
abbrev pub totals_data : Totals → Data
totals_data t = object_of (
    (codes "delay", count t.cost.delay) ∷
    (codes "forced", count t.cost.forced) ∷
    (codes "governed", count t.cost.governed) ∷
    (codes "issued", count t.cost.issued) ∷
    (codes "longest", count t.cost.longest) ∷
    (codes "mean", or_null count (mean_delay t.cost)) ∷
    (codes "over", count t.cost.over) ∷
    (codes "regs", count t.regulations) ∷
    (codes "slots", count t.cost.slots) ∷ [])

-- how a flight stands on a day
abbrev pub standing_data : Standing → Data
standing_data s = object_of (
    (codes "ctot", or_null count s.ctot) ∷
    (codes "delay", count s.delay) ∷
    (codes "reg", or_null string s.reg) ∷ [])

-- a flight with how it stands on both
abbrev pub difference_data : Difference → Data
difference_data d = object_of (
    (codes "base", or_null standing_data d.base) ∷
    (codes "key", string d.key) ∷
    (codes "variant", or_null standing_data d.variant) ∷ [])

abbrev pub compare_data : Date → Comparison → Data
compare_data day found = object_of (
    (codes "base", totals_data found.base) ∷
    (codes "day", day_data day) ∷
    (codes "flights", list_of difference_data found.flights) ∷
    (codes "variant", totals_data found.variant) ∷ [])

-- one line
abbrev pub compare_json : Date → Comparison → Text
compare_json day found = line_of (compare_data day found)
