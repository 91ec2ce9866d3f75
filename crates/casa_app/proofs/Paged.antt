-- what is kept of a day is what the state shows
use Rattle.std.proofs.Common.{◌≡◌, suc, List, [], ◌∷◌, length, map, Option, Some, refl, ap}
use Rattle.std.specs.Option.{option_map}
use Rattle.std.specs.List.{AllByRecursion, cons_option, filter_map}
use Rattle.std.specs.Map.{keys_of}
use Rattle.casa_filing.specs.declared.regulation.Measure.{Measure}
use Rattle.casa_filing.specs.Subject.{regulation}
use Rattle.casa_filing.specs.Text.{Text, at_name}
use Rattle.casa_filing.proofs.Entries.{each_found}
use Rattle.casa_flight.specs.declared.call.Call.{Call}
use Rattle.casa_flight.specs.declared.reply.ListReply.{ListReply}
use Rattle.casa_flight.specs.declared.row.Row.{Row}
use Rattle.casa_flight.specs.declared.state.State.{State}
use Rattle.casa_flight.specs.Good.{IsGood}
use Rattle.casa_flight.specs.Listing.{Listing, listing}
use Rattle.casa_flight.specs.Replies.{list_reply}
use Rattle.casa_flight.specs.State.{empty, row_of}
use Rattle.casa_flight.specs.Steps.{next}
use Rattle.casa_inquiry.specs.Summary.{lists_told}
use Rattle.jiff_core.specs.declared.civil.date.Date.{Date}
use Rattle.casa_look.specs.declared.day.DayRecord.{DayRecord}
use Rattle.casa_look.specs.declared.day.PlannedFlight.{PlannedFlight}
use Rattle.casa_look.specs.StateText.{open_regulation, open_regulations}
use Rattle.casa_session.specs.Played.{sequential_history, state_after_calls}
use Rattle.casa_app.specs.Pages.{day_after, opened, planned_flight, planned_flights}
use Rattle.casa_app.specs.Summaries.{lists_after}

-- each list that is told is of an open regulation
module _ (m : State) where
  opened_each : (es : List (Text × Measure)) → AllByRecursion (λ (e : Text × Measure). at_name m.regs e.0 ≡ Some e.1) es
      → filter_map (opened m) (map (λ (e : Text × Measure). list_reply m (regulation e.0 e.1) (listing m.rows e.0 e.1)) es)
      ≡ map (λ (e : Text × Measure). open_regulation e.0 e.1 (list_reply m (regulation e.0 e.1) (listing m.rows e.0 e.1))) es
  opened_each [] found = refl
  opened_each (e ∷ es) found =
      let list : ListReply = list_reply m (regulation e.0 e.1) (listing m.rows e.0 e.1) in
      let here : opened m list ≡ Some (open_regulation e.0 e.1 list) =
      ap (λ (o : Option Measure).
      option_map (λ (kept : Listing). open_regulation e.0 (record { loc = e.1.loc; profile = kept.profile }) list) (option_map (listing m.rows e.0) o)) found.0 in
      let rest = opened_each es found.1 in
      λ i. cons_option (here i) (rest i)

  pub opened_told : IsGood m → filter_map (opened m) (lists_told m) ≡ open_regulations m
  opened_told good = opened_each m.regs (each_found m.regs good.regs_in_order)

-- the flight under a key, as it is kept; none where there is none
abbrev pub planned_under : State → Text → Option PlannedFlight
planned_under m key = option_map (planned_flight m key) (row_of m key)

planned_each : (m : State) (es : List (Text × Row)) → AllByRecursion (λ (e : Text × Row). at_name m.rows e.0 ≡ Some e.1) es
    → filter_map (planned_under m) (keys_of es) ≡ map (λ (e : Text × Row). planned_flight m e.0 e.1) es
planned_each m [] found = refl
planned_each m (e ∷ es) found =
    let here : planned_under m e.0 ≡ Some (planned_flight m e.0 e.1) = ap (option_map (planned_flight m e.0)) found.0 in
    let rest = planned_each m es found.1 in
    λ i. cons_option (here i) (rest i)

-- each key of a flight has one
pub planned_all : (m : State) → IsGood m → filter_map (planned_under m) (keys_of m.rows) ≡ planned_flights m
planned_all m good = planned_each m m.rows (each_found m.rows good.rows_in_order)

-- a history has an entry for each call
pub length-history : (m : State) (calls : List Call) → length (sequential_history m calls) ≡ length calls
length-history m [] = refl
length-history m (c ∷ calls) = ap suc (length-history (next m c) calls)

-- a record is that of the day where each part is
pub day_made : (day : Date) (answered : List Call) (kept : DayRecord) → kept.day ≡ day → kept.calls ≡ length answered
    → kept.clock ≡ (state_after_calls answered).clock → kept.regulations ≡ open_regulations (state_after_calls answered)
    → kept.lists ≡ lists_after answered → kept.flights ≡ planned_flights (state_after_calls answered) → kept.position ≡ 0
    → kept.entries ≡ sequential_history empty answered → kept ≡ day_after day answered
day_made day answered kept of_day calls clock regulations lists flights position entries = λ i. record {
  day = of_day i;
  calls = calls i;
  clock = clock i;
  regulations = regulations i;
  lists = lists i;
  flights = flights i;
  position = position i;
  entries = entries i;
}
