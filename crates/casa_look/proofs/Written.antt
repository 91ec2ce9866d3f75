-- parts of a text, one behind the other
use Rattle.std.proofs.Common.{◌≡◌, ℕ, ◌+◌, List, [], ◌∷◌, length, ◌++◌, append_assoc, refl}
use Rattle.std.specs.Prelude.{codes}
use Rattle.serde_json.specs.Data.{Data, string}
use Rattle.serde_json.specs.Written.{compact_text}
use Rattle.serde_json.proofs.OnLiterals.{serde_json_on_literals}
use Rattle.jiff.specs.Words.{date_text}
use Rattle.casa_filing.specs.FlightPlan.{FlightPlan}
use Rattle.casa_flight.specs.declared.call.Call.{Call}
use Rattle.casa_flight.specs.declared.reply.ListReply.{ListReply}
use Rattle.casa_flight.specs.declared.reply.Reply.{Reply}
use Rattle.casa_history.specs.declared.entry.Entry.{Entry}
use Rattle.casa_inquiry.specs.declared.exchanging.PossibleExchange.{PossibleExchange}
use Rattle.casa_inquiry.specs.declared.why.Reasons.{Reasons}
use Rattle.casa_json.specs.Flights.{crossing_data, exchange_data, holding_data, offer_data, rule_name}
use Rattle.casa_json.specs.Lists.{period_data}
use Rattle.casa_wire.specs.LineTexts.{count, flight_data, line_of, list_data, list_of, messages_data, object_of, or_null}
use Rattle.casa_look.specs.declared.day.DayRecord.{DayRecord}
use Rattle.casa_look.specs.declared.day.PlannedFlight.{PlannedFlight}
use Rattle.casa_look.specs.declared.since.News.{News}
use Rattle.casa_look.specs.declared.state.OpenRegulation.{OpenRegulation}
use Rattle.casa_look.specs.DayText.{day_text, planned_data}
use Rattle.casa_look.specs.FlightText.{flight_text, plan_data, status_name}
use Rattle.casa_look.specs.ListText.{list_text}
use Rattle.casa_look.specs.SinceText.{news_behind, news_data, since_text}
use Rattle.casa_look.specs.StateText.{regulation_data, state_text}

pub listed_text : (calls : ℕ) (list : ListReply)
    → codes "{\"list\":" ++ (compact_text (list_data list) ++ (codes ",\"n\":" ++ (compact_text (count calls) ++ codes "}"))) ≡ list_text calls list
unfolding serde_json_on_literals
listed_text calls list = refl

pub news_text : (x : News)
    → (codes "{\"at\":" ++ (compact_text (or_null count x.clock) ++ (codes ",\"desk\":" ++ (compact_text (count x.desk) ++ codes ",\"msgs\":"))))
    ++ (compact_text (messages_data x.messages) ++ (codes ",\"n\":" ++ (compact_text (count x.position) ++ codes "}"))) ≡ compact_text (news_data x)
unfolding serde_json_on_literals
news_text x = simp append_assoc refl

pub all_news_text : (position : ℕ) (entries : List (Entry Call Reply))
    → (codes "{\"n\":" ++ (compact_text (count (position + length entries)) ++ codes ",\"news\":"))
    ++ (compact_text (list_of news_data (news_behind position entries)) ++ codes "}") ≡ since_text position entries
unfolding serde_json_on_literals
all_news_text position entries = simp append_assoc refl

pub whole_state_text : (calls clock : ℕ) (regulations : List OpenRegulation)
    → (codes "{\"clock\":" ++ (compact_text (count clock) ++ (codes ",\"n\":" ++ (compact_text (count calls) ++ codes ",\"regs\":"))))
    ++ (compact_text (list_of regulation_data regulations) ++ codes "}") ≡ state_text calls clock regulations
unfolding serde_json_on_literals
whole_state_text calls clock regulations = simp append_assoc refl

pub regulation_text : (r : OpenRegulation)
    → (codes "{\"delay\":" ++ compact_text (count r.cost.delay))
    ++ ((codes ",\"forced\":" ++ compact_text (count r.cost.forced))
    ++ ((codes ",\"governed\":" ++ compact_text (count r.cost.governed))
    ++ ((codes ",\"issued\":" ++ compact_text (count r.cost.issued))
    ++ ((codes ",\"loc\":" ++ compact_text (string r.measure.loc))
    ++ ((codes ",\"longest\":" ++ compact_text (count r.cost.longest))
    ++ ((codes ",\"over\":" ++ compact_text (count r.cost.over))
    ++ (codes ",\"periods\":" ++ (compact_text (list_of period_data r.measure.profile)
    ++ ((codes ",\"reg\":" ++ compact_text (string r.id))
    ++ ((codes ",\"slots\":" ++ compact_text (count r.cost.slots)) ++ codes "}")))))))))) ≡ compact_text (regulation_data r)
unfolding serde_json_on_literals
regulation_text r = refl

pub plan_text : (plan : FlightPlan)
    → (codes "{\"eobt\":" ++ (compact_text (count plan.eobt) ++ (codes ",\"key\":" ++ (compact_text (string plan.key)
    ++ (codes ",\"sts\":" ++ (compact_text (or_null string (status_name plan.sts)) ++ (codes ",\"taxi\":" ++ (compact_text (count plan.taxi) ++ codes ",\"via\":"))))))))
    ++ (compact_text (list_of crossing_data plan.via) ++ codes "}") ≡ compact_text (plan_data plan)
unfolding serde_json_on_literals
plan_text plan = simp append_assoc refl

pub explained_text : (calls : ℕ) (plan : FlightPlan) (why : Reasons) (exchanges : List PossibleExchange)
    → codes "{\"exchanges\":" ++ (compact_text (list_of exchange_data exchanges) ++ (codes ",\"flight\":" ++ (compact_text (flight_data why.flight) ++ (codes ",\"holdings\":" ++ (compact_text (list_of holding_data why.holdings)
    ++ ((codes ",\"n\":" ++ (compact_text (count calls) ++ codes ",\"offers\":"))
    ++ (compact_text (list_of offer_data why.offers) ++ (codes ",\"plan\":" ++ (compact_text (plan_data plan)
    ++ (codes ",\"rule\":" ++ (compact_text (string (rule_name why.rule)) ++ codes "}"))))))))))) ≡ flight_text calls plan why exchanges
unfolding serde_json_on_literals
explained_text calls plan why exchanges = simp append_assoc refl

pub planned_text : (f : PlannedFlight)
    → codes "{\"flight\":" ++ (compact_text (flight_data f.flight) ++ (codes ",\"plan\":" ++ (compact_text (plan_data f.plan) ++ codes "}"))) ≡ compact_text (planned_data f)
unfolding serde_json_on_literals
planned_text f = refl

pub whole_day_text : (kept : DayRecord)
    → (codes "{\"day\":" ++ (compact_text (string (date_text kept.day)) ++ codes ",\"flights\":"))
    ++ (compact_text (list_of planned_data kept.flights) ++ (codes ",\"lists\":" ++ (compact_text (list_of list_data kept.lists)
    ++ (codes ",\"since\":" ++ (since_text kept.position kept.entries ++ (codes ",\"state\":"
    ++ (state_text kept.calls kept.clock kept.regulations ++ codes "}"))))))) ≡ day_text kept
unfolding serde_json_on_literals
whole_day_text kept = simp append_assoc refl

pub two_states_text : (before after : Data)
    → codes "{\"after\":" ++ (compact_text after ++ (codes ",\"before\":" ++ (compact_text before ++ codes "}\n")))
    ≡ line_of (object_of ((codes "after", after) ∷ (codes "before", before) ∷ []))
unfolding serde_json_on_literals
two_states_text before after = simp append_assoc refl
