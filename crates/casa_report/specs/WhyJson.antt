-- to believe: why a flight waits, and with which flights it could exchange its slot, as JSON
use Rattle.std.specs.Prelude.{List, [], ◌∷◌, codes}
use Rattle.serde_json.specs.Data.{Data, string}
use Rattle.jiff_core.specs.declared.civil.date.Date.{Date}
use Rattle.casa_filing.specs.Text.{Text}
use Rattle.casa_inquiry.specs.declared.exchanging.PossibleExchange.{PossibleExchange}
use Rattle.casa_inquiry.specs.declared.why.Reasons.{Reasons}
use Rattle.casa_json.specs.Flights.{exchange_data, holding_data, offer_data, rule_name}
use Rattle.casa_wire.specs.LineTexts.{flight_data, line_of, list_of, object_of}
use Rattle.casa_report.specs.Json.{day_data}

-- the exchanges that are possible, the flight as a reply has it, the slots that it waits for, what each regulation offers it,
-- and the rule
abbrev pub why_data : Date → Reasons → List PossibleExchange → Data
why_data day why exchanges = object_of (
    (codes "day", day_data day) ∷
    (codes "exchanges", list_of exchange_data exchanges) ∷
    (codes "flight", flight_data why.flight) ∷
    (codes "holdings", list_of holding_data why.holdings) ∷
    (codes "offers", list_of offer_data why.offers) ∷
    (codes "rule", string (rule_name why.rule)) ∷ [])

abbrev pub why_json : Date → Reasons → List PossibleExchange → Text
why_json day why exchanges = line_of (why_data day why exchanges)
