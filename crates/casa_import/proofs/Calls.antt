-- filings with keys of their own are taken one after another
use Rattle.std.proofs.Common.{◌≡◌, ◌∙◌, ◌∷◌, [], arith, List, map, Bool, true, false, refl, sym, ap, subst, None}
use Rattle.std.specs.Prelude.{nat_lt}
use Rattle.std.specs.List.{AllByRecursion, IsDistinct}
use Rattle.std.specs.Ordering.{is_eq}
use Rattle.std.proofs.lemmas.Bool.{both_ways, le-ltb}
use Rattle.std.proofs.lemmas.Cmp.{nat_list_eq_equiv}
use Rattle.casa_filing.specs.FlightPlan.{FlightPlan}
use Rattle.casa_filing.specs.Text.{Text, at_name, same_text}
use Rattle.casa_filing.specs.declared.plan.Crossing.{Crossing}
use Rattle.casa_filing.proofs.Entries.{at-put_other, same_name, text_cmp}
use Rattle.casa_flight.specs.declared.call.Call.{Call}
use Rattle.casa_flight.specs.declared.call.Call.TheVariants.{File}
use Rattle.casa_flight.specs.declared.row.Row.{Row as Flight}
use Rattle.casa_flight.specs.declared.state.State.{State}
use Rattle.casa_flight.specs.Entry.{enter, row_after_entry, situation}
use Rattle.casa_flight.specs.State.{row_of}
use Rattle.casa_flight.specs.Steps.{after, file, leads, new_row, next, step}
use Rattle.casa_import.specs.declared.columns.FlightColumns.{FlightColumns}
use Rattle.casa_import.specs.declared.columns.ImportOptions.{ImportOptions}
use Rattle.casa_rows.specs.declared.row.Row.{Row}
use Rattle.casa_import.specs.Filings.{IsByOffBlockTime, have_one_key, outcome}
use Rattle.casa_import.specs.Taken.{AreTaken}
use Rattle.casa_import.proofs.Counted.{keys, keys-sorted}

abbrev call_of : FlightPlan → Call
call_of plan = File plan

-- none of these plans is filed
abbrev AreNew : State → List FlightPlan → Type 0
AreNew m plans = AllByRecursion (λ (plan : FlightPlan). row_of m plan.key ≡ None) plans

-- a key is met where the other key looks for it, or it differs
apart : (a b : Text) → same_text a b ≡ false → is_eq (text_cmp b a) ≡ false
apart a b differ = by (is_eq (text_cmp b a)) refl
  where
    by : (t : Bool) → is_eq (text_cmp b a) ≡ t → t ≡ false
    by true t = absurd (both_ways _ differ (subst (λ (q : Text). same_text q b ≡ true) (same_name b a t) (nat_list_eq_equiv.refl b)))
    by false t = refl

-- a new flight is filed at midnight
filed : (m : State) (plan : FlightPlan) → m.clock ≡ 0 → row_of m plan.key ≡ None → step m (File plan) ≡ leads (enter m plan.key (new_row plan))
filed m plan midnight new =
    ap (λ o. file m plan o (nat_lt plan.eobt m.clock)) new
    ∙ ap (λ late. file m plan None late) (ap (nat_lt plan.eobt) midnight ∙ le-ltb plan.eobt 0 (omega arith))

-- the others are as new as before
still_new : (m : State) (plan : FlightPlan) (row : Flight) (plans : List FlightPlan)
    → AllByRecursion (λ q. have_one_key plan q ≡ false) plans → AreNew m plans → AreNew (enter m plan.key row) plans
still_new m plan row [] differ new = tt
still_new m plan row (q ∷ plans) differ new = (
  at-put_other q.key plan.key (row_after_entry (situation m) plan.key row) m.rows (apart plan.key q.key differ.0) ∙ new.0,
  still_new m plan row plans differ.1 new.1,
)

pub taken : (plans : List FlightPlan) (m : State) → m.clock ≡ 0 → IsDistinct have_one_key plans → AreNew m plans → AreTaken m (map call_of plans)
unfolding IsDistinct
taken [] m midnight differ new = tt
taken (plan ∷ plans) m midnight differ new =
    let led : step m (File plan) ≡ leads (enter m plan.key (new_row plan)) = filed m plan midnight new.0 in
    let to : next m (File plan) ≡ enter m plan.key (new_row plan) = ap (after m) led in (
      led ∙ ap leads (sym to),
      subst (λ n. AreTaken n (map call_of plans)) (sym to)
          (taken plans (enter m plan.key (new_row plan)) midnight differ.1 (still_new m plan (new_row plan) plans differ.0 new.1)),
    )

all_new : (m : State) → m.rows ≡ [] → (plans : List FlightPlan) → AreNew m plans
all_new m none [] = tt
all_new m none (plan ∷ plans) = (ap (λ es. at_name es plan.key) none, all_new m none plans)

pub in_order : (m : State) → m.clock ≡ 0 → m.rows ≡ []
    → (options : ImportOptions) (columns : FlightColumns) (crossings : Text → List Crossing) (rows : List Row)
    → AreTaken m (map call_of (outcome options columns crossings rows).plans)
in_order m midnight none options columns crossings rows =
    let plans = (outcome options columns crossings rows).plans in
    taken plans m midnight (keys options columns crossings rows) (all_new m none plans)

pub sorted : (m : State) → m.clock ≡ 0 → m.rows ≡ []
    → (options : ImportOptions) (columns : FlightColumns) (crossings : Text → List Crossing) (rows : List Row)
    → (plans : List FlightPlan) → IsByOffBlockTime (outcome options columns crossings rows).plans plans
    → AreTaken m (map call_of plans)
sorted m midnight none options columns crossings rows plans by_time =
    taken plans m midnight (keys-sorted _ plans by_time (keys options columns crossings rows)) (all_new m none plans)
