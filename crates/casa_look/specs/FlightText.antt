-- to believe: what is shown of a flight
use Rattle.std.specs.Prelude.{ℕ, List, [], ◌∷◌, Option, None, Some, codes}
use Rattle.serde_json.specs.Data.{Data, string}
use Rattle.serde_json.specs.Written.{compact_text}
use Rattle.casa_filing.specs.Text.{Text}
use Rattle.casa_filing.specs.FlightPlan.{FlightPlan}
use Rattle.casa_filing.specs.declared.plan.Sts.{Sts}
use Rattle.casa_filing.specs.declared.plan.Sts.TheVariants.{Plain, Head, Sar, Medevac, Ffr, Atfmx}
use Rattle.casa_inquiry.specs.declared.exchanging.PossibleExchange.{PossibleExchange}
use Rattle.casa_inquiry.specs.declared.why.Reasons.{Reasons}
use Rattle.casa_json.specs.Flights.{crossing_data, exchange_data, holding_data, offer_data, rule_name}
use Rattle.casa_wire.specs.LineTexts.{count, flight_data, list_of, object_of, or_null}

-- the name of a status; the plain one has none
abbrev pub status_name : Sts → Option Text
status_name Plain = None
status_name Head = Some (codes "HEAD")
status_name Sar = Some (codes "SAR")
status_name Medevac = Some (codes "MEDEVAC")
status_name Ffr = Some (codes "FFR")
status_name Atfmx = Some (codes "ATFMX")

-- a plan, with the members of a filing
abbrev pub plan_data : FlightPlan → Data
plan_data plan = object_of (
    (codes "eobt", count plan.eobt) ∷
    (codes "key", string plan.key) ∷
    (codes "sts", or_null string (status_name plan.sts)) ∷
    (codes "taxi", count plan.taxi) ∷
    (codes "via", list_of crossing_data plan.via) ∷ [])

-- a flight with this plan after so many calls, why it stands as it does, and the exchanges of its slot that are possible
abbrev pub explained_data : ℕ → FlightPlan → Reasons → List PossibleExchange → Data
explained_data calls plan why exchanges = object_of (
    (codes "exchanges", list_of exchange_data exchanges) ∷
    (codes "flight", flight_data why.flight) ∷
    (codes "holdings", list_of holding_data why.holdings) ∷
    (codes "n", count calls) ∷
    (codes "offers", list_of offer_data why.offers) ∷
    (codes "plan", plan_data plan) ∷
    (codes "rule", string (rule_name why.rule)) ∷ [])

abbrev pub flight_text : ℕ → FlightPlan → Reasons → List PossibleExchange → Text
flight_text calls plan why exchanges = compact_text (explained_data calls plan why exchanges)
