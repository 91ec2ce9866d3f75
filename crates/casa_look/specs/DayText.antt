-- to believe: what is kept of a day
use Rattle.std.specs.Prelude.{[], ◌∷◌, codes}
use Rattle.serde_json.specs.Data.{Data, string}
use Rattle.serde_json.specs.Written.{compact_text}
use Rattle.jiff.specs.Words.{date_text}
use Rattle.casa_filing.specs.Text.{Text}
use Rattle.casa_wire.specs.LineTexts.{flight_data, list_data, list_of, object_of}
use Rattle.casa_look.specs.declared.day.DayRecord.{DayRecord}
use Rattle.casa_look.specs.declared.day.PlannedFlight.{PlannedFlight}
use Rattle.casa_look.specs.FlightText.{plan_data}
use Rattle.casa_look.specs.SinceText.{since_data}
use Rattle.casa_look.specs.StateText.{state_data}

-- a flight as it stands, with its plan
abbrev pub planned_data : PlannedFlight → Data
planned_data f = object_of ((codes "flight", flight_data f.flight) ∷ (codes "plan", plan_data f.plan) ∷ [])

abbrev pub day_data : DayRecord → Data
day_data kept = object_of (
    (codes "day", string (date_text kept.day)) ∷
    (codes "flights", list_of planned_data kept.flights) ∷
    (codes "lists", list_of list_data kept.lists) ∷
    (codes "since", since_data kept.position kept.entries) ∷
    (codes "state", state_data kept.calls kept.clock kept.regulations) ∷ [])

abbrev pub day_text : DayRecord → Text
day_text kept = compact_text (day_data kept)
