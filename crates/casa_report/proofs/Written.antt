-- JSON texts, part by part
use Rattle.std.proofs.Common.{◌≡◌, List, ◌++◌, append_assoc, refl}
use Rattle.std.specs.Prelude.{ℕ, codes}
use Rattle.serde_json.specs.Data.{string}
use Rattle.serde_json.specs.Written.{compact_text}
use Rattle.serde_json.proofs.OnLiterals.{serde_json_on_literals}
use Rattle.jiff_core.specs.declared.civil.date.Date.{Date}
use Rattle.casa_filing.specs.Text.{Text}
use Rattle.casa_flight.specs.declared.reply.ListReply.{ListReply}
use Rattle.casa_inquiry.specs.declared.load.Step.{Step}
use Rattle.casa_inquiry.specs.declared.exchanging.PossibleExchange.{PossibleExchange}
use Rattle.casa_inquiry.specs.declared.why.Reasons.{Reasons}
use Rattle.casa_inquiry.specs.Summary.{cost_of, mean_delay}
use Rattle.casa_json.specs.Flights.{exchange_data, holding_data, offer_data, rule_name}
use Rattle.casa_json.specs.Lists.{report_row_data, step_data}
use Rattle.casa_wire.specs.LineTexts.{count, flight_data, line_of, list_data, list_of, or_null}
use Rattle.casa_selection.specs.declared.rows.ReportRow.{ReportRow}
use Rattle.casa_report.specs.Json.{cost_data, day_data, load_json, report_json, reports_json, rows_json, summary_json}
use Rattle.casa_report.specs.Messages.{cancellation_data, slot_message_data}
use Rattle.casa_report.specs.WhyJson.{why_data}

pub whole_report : (day : Date) (reg : Text) (list : ListReply)
    → (codes "{\"day\":" ++ compact_text (day_data day))
    ++ (codes ",\"list\":" ++ (compact_text (list_data list) ++ (codes ",\"reg\":" ++ (compact_text (string reg) ++ codes "}\n")))) ≡ report_json day reg list
unfolding serde_json_on_literals
whole_report day reg list = simp append_assoc refl

pub whole_reports : (day : Date) (lists : List ListReply)
    → (codes "{\"day\":" ++ compact_text (day_data day))
    ++ (codes ",\"lists\":" ++ (compact_text (list_of list_data lists) ++ codes "}\n")) ≡ reports_json day lists
unfolding serde_json_on_literals
whole_reports day lists = simp append_assoc refl

pub whole_rows : (day : Date) (rows : List ReportRow)
    → (codes "{\"day\":" ++ compact_text (day_data day))
    ++ (codes ",\"rows\":" ++ (compact_text (list_of report_row_data rows) ++ codes "}\n")) ≡ rows_json day rows
unfolding serde_json_on_literals
whole_rows day rows = simp append_assoc refl

pub slot_line : (kind key reg : Text) (ctot number : ℕ)
    → codes "{\"ctot\":" ++ (compact_text (count ctot) ++ (codes ",\"key\":" ++ (compact_text (string key) ++ (codes ",\"kind\":" ++ (compact_text (string kind)
    ++ (codes ",\"n\":" ++ (compact_text (count number) ++ (codes ",\"reg\":" ++ (compact_text (string reg) ++ codes "}\n"))))))))) ≡ line_of (slot_message_data kind key ctot reg number)
unfolding serde_json_on_literals
slot_line kind key reg ctot number = simp append_assoc refl

pub cancellation_line : (key : Text) (number : ℕ)
    → codes "{\"key\":" ++ (compact_text (string key) ++ (codes ",\"kind\":\"SLC\",\"n\":" ++ (compact_text (count number) ++ codes "}\n"))) ≡ line_of (cancellation_data key number)
unfolding serde_json_on_literals
cancellation_line key number = simp append_assoc refl

pub whole_load : (day : Date) (reg : Text) (steps : List Step)
    → (codes "{\"day\":" ++ compact_text (day_data day))
    ++ ((codes ",\"reg\":" ++ (compact_text (string reg) ++ codes ",\"steps\":")) ++ (compact_text (list_of step_data steps) ++ codes "}\n")) ≡ load_json day reg steps
unfolding serde_json_on_literals
whole_load day reg steps = simp append_assoc refl

pub whole_summary : (day : Date) (lists : List ListReply)
    → (codes "{\"day\":" ++ compact_text (day_data day))
    ++ (codes ",\"regs\":" ++ (compact_text (list_of cost_data lists) ++ codes "}\n")) ≡ summary_json day lists
unfolding serde_json_on_literals
whole_summary day lists = simp append_assoc refl

pub cost_text : (l : ListReply)
    → (codes "{\"delay\":" ++ compact_text (count (cost_of l).delay))
    ++ ((codes ",\"forced\":" ++ compact_text (count (cost_of l).forced))
    ++ ((codes ",\"from\":" ++ compact_text (count l.start))
    ++ ((codes ",\"governed\":" ++ compact_text (count (cost_of l).governed))
    ++ ((codes ",\"issued\":" ++ compact_text (count (cost_of l).issued))
    ++ ((codes ",\"loc\":" ++ compact_text (string l.loc))
    ++ ((codes ",\"longest\":" ++ compact_text (count (cost_of l).longest))
    ++ ((codes ",\"mean\":" ++ compact_text (or_null count (mean_delay (cost_of l))))
    ++ ((codes ",\"over\":" ++ compact_text (count (cost_of l).over))
    ++ ((codes ",\"reg\":" ++ compact_text (string l.reg))
    ++ ((codes ",\"slots\":" ++ compact_text (count (cost_of l).slots))
    ++ ((codes ",\"to\":" ++ compact_text (count l.end)) ++ codes "}"))))))))))) ≡ compact_text (cost_data l)
unfolding serde_json_on_literals
cost_text l = refl

pub reasons_text : (day : Date) (why : Reasons) (exchanges : List PossibleExchange)
    → (codes "{\"day\":" ++ compact_text (day_data day))
    ++ (codes ",\"exchanges\":" ++ (compact_text (list_of exchange_data exchanges) ++ (codes ",\"flight\":" ++ (compact_text (flight_data why.flight)
    ++ (codes ",\"holdings\":" ++ (compact_text (list_of holding_data why.holdings) ++ (codes ",\"offers\":" ++ (compact_text (list_of offer_data why.offers)
    ++ (codes ",\"rule\":" ++ (compact_text (string (rule_name why.rule)) ++ codes "}")))))))))) ≡ compact_text (why_data day why exchanges)
unfolding serde_json_on_literals
reasons_text day why exchanges = simp append_assoc refl
