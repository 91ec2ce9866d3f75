-- regulations with identifiers of their own open one after another, and then the filings are taken
use Rattle.std.proofs.Common.{◌≡◌, ◌∙◌, ◌≤◌, ◌+◌, ◌<◌, ℕ, suc, arith, List, [], ◌∷◌, ◌++◌, length, map, Bool, true, false, refl, sym, ap, subst, Option, None, Some}
use Rattle.std.specs.List.{AllByRecursion, IsDistinct}
use Rattle.std.specs.declared.cmp.Ordering.{Ordering}
use Rattle.std.specs.declared.cmp.Ordering.TheVariants.{Less, Equal, Greater}
use Rattle.std.specs.Ordering.{is_eq, match_ordering}
use Rattle.std.specs.Prelude.{nat_le}
use Rattle.std.proofs.lemmas.Bool.{both_ways, lt-leb}
use Rattle.std.proofs.lemmas.Cmp.{nat_list_eq_equiv}
use Rattle.std.proofs.lemmas.List.{length-map}
use Rattle.jiff_core.specs.declared.civil.date.Date.{Date}
use Rattle.casa_filing.specs.FlightPlan.{FlightPlan}
use Rattle.casa_filing.specs.Subject.{regulation}
use Rattle.casa_filing.specs.Text.{Text, at_name, put, same_text}
use Rattle.casa_filing.specs.declared.plan.Crossing.{Crossing}
use Rattle.casa_filing.specs.declared.regulation.Measure.{Measure}
use Rattle.casa_filing.proofs.Entries.{at-put_other, same_name, text_cmp}
use Rattle.casa_flight.specs.declared.call.Call.{Call}
use Rattle.casa_flight.specs.declared.state.State.{State}
use Rattle.casa_flight.specs.Entry.{enter_all}
use Rattle.casa_flight.specs.State.{measure_of, row_of}
use Rattle.casa_flight.specs.Steps.{after, flights_over, leads, may_compete, next, open_regulation, step, take_in}
use Rattle.casa_import.specs.declared.columns.FlightColumns.{FlightColumns}
use Rattle.casa_import.specs.declared.columns.ImportOptions.{ImportOptions}
use Rattle.casa_import.specs.declared.columns.RegulationColumns.{RegulationColumns}
use Rattle.casa_import.specs.declared.regulations.Opening.{Opening}
use Rattle.casa_import.specs.Filings.{have_one_key}
use Rattle.casa_import.specs.Regulations.{judged_rows}
use Rattle.casa_import.specs.Taken.{AreTaken}
use Rattle.casa_import.proofs.Apart.{all_may_open}
use Rattle.casa_import.proofs.Calls.{taken}
use Rattle.casa_import.proofs.Counted.{keys, keys-sorted}
use Rattle.casa_traffic.specs.declared.making.Order.{Order}
use Rattle.casa_traffic.specs.declared.making.Order.TheVariants.{File, Eobt}
use Rattle.casa_traffic.specs.declared.sheets.Sheet.{Sheet}
use Rattle.casa_traffic.specs.Laws.{CallsAreTaken}
use Rattle.casa_traffic.specs.Calls.{file_call, open_call}
use Rattle.casa_traffic.specs.Making.{IsInOrder, filed, opened}

abbrev reg_of : Opening → Text
reg_of o = o.reg

abbrev measure_for : Opening → Measure
measure_for o = record { loc = o.loc; profile = o.profile }

abbrev with_open : State → Opening → State
with_open m o = record m { regs = put m.regs o.reg (record { loc = o.loc; profile = o.profile }) }

-- a put adds one entry at most
one_more : {X : Type 0} (o : Ordering) (e : Text × X) (es more : List (Text × X)) (k : Text) (v : X) → length more ≤ suc (length es)
    → length (match_ordering o ((k, v) ∷ e ∷ es) ((e.0, v) ∷ es) (e ∷ more)) ≤ suc (suc (length es))
one_more Less e es more k v is = omega arith
one_more Equal e es more k v is = omega arith
one_more Greater e es more k v is = omega (arith, is)

length-put : {X : Type 0} (es : List (Text × X)) (k : Text) (v : X) → length (put es k v) ≤ suc (length es)
length-put [] k v = omega arith
length-put (e ∷ es) k v = one_more (text_cmp k e.0) e es (put es k v) k v (length-put es k v)

-- a key is met where the other key looks for it, or it differs
apart : (a b : Text) → same_text a b ≡ false → is_eq (text_cmp b a) ≡ false
apart a b differ = by (is_eq (text_cmp b a)) refl
  where
    by : (t : Bool) → is_eq (text_cmp b a) ≡ t → t ≡ false
    by true t = absurd (both_ways _ differ (subst (λ (q : Text). same_text q b ≡ true) (same_name b a t) (nat_list_eq_equiv.refl b)))
    by false t = refl

-- with no flight a regulation opens, and nothing enters
opens : (m : State) (o : Opening) → m.rows ≡ [] → measure_of m o.reg ≡ None → length m.regs < 256 → step m (open_call o) ≡ leads (with_open m o)
opens m o none new few =
    let measure : Measure = record { loc = o.loc; profile = o.profile } in
    ap (λ old. open_regulation m o.reg measure old (nat_le 256 (length m.regs))) new
    ∙ ap (open_regulation m o.reg measure None) (lt-leb 256 (length m.regs) few)
    ∙ ap (λ rows. leads (enter_all (with_open m o) (flights_over (may_compete m.clock) (regulation o.reg measure) rows))) none

abbrev AreFree : State → List Opening → Type 0
AreFree m os = AllByRecursion (λ (o : Opening). measure_of m o.reg ≡ None) os

still_free : (m : State) (o : Opening) (os : List Opening) → AllByRecursion (λ reg. same_text o.reg reg ≡ false) (map reg_of os) → AreFree m os → AreFree (with_open m o) os
still_free m o [] differ free = tt
still_free m o (q ∷ os) differ free = (
  at-put_other q.reg o.reg (record { loc = o.loc; profile = o.profile }) m.regs (apart o.reg q.reg differ.0) ∙ free.0,
  still_free m o os differ.1 free.1,
)

opened_then : (os : List Opening) (calls : List Call) (m : State) → m.clock ≡ 0 → m.rows ≡ [] → IsDistinct same_text (map reg_of os) → AreFree m os
    → length m.regs + length os ≤ 256 → ((n : State) → n.clock ≡ 0 → n.rows ≡ [] → AreTaken n calls) → AreTaken m (map open_call os ++ calls)
unfolding IsDistinct
opened_then [] calls m midnight none differ free few behind = behind m midnight none
opened_then (o ∷ os) calls m midnight none differ free few behind =
    let led : step m (open_call o) ≡ leads (with_open m o) = opens m o none free.0 (omega arith) in
    let to : next m (open_call o) ≡ with_open m o = ap (after m) led in
    let more : length (with_open m o).regs ≤ suc (length m.regs) = length-put m.regs o.reg (measure_for o) in (
      led ∙ ap leads (sym to),
      subst (λ n. AreTaken n (map open_call os ++ calls)) (sym to)
          (opened_then os calls (with_open m o) midnight none differ.1 (still_free m o os differ.0 free.1) (omega (arith, more)) behind),
    )

all_free : (m : State) → m.regs ≡ [] → (os : List Opening) → AreFree m os
all_free m none [] = tt
all_free m none (o ∷ os) = (ap (λ es. at_name es o.reg) none, all_free m none os)

all_new : (m : State) → m.rows ≡ [] → (plans : List FlightPlan) → AllByRecursion (λ (plan : FlightPlan). row_of m plan.key ≡ None) plans
all_new m none [] = tt
all_new m none (plan ∷ plans) = (ap (λ es. at_name es plan.key) none, all_new m none plans)

-- the identifiers of what is opened, and the keys of what is filed, differ; and few are opened
few : (day : Date) (sheet : Option Sheet) (columns : Option RegulationColumns) → length (opened day sheet columns) ≤ 256
few day None columns = omega arith
few day (Some sheet) None = omega arith
few day (Some sheet) (Some columns) =
    let all = opened day (Some sheet) (Some columns) in
    let small : length (map reg_of all) ≤ 256 = (all_may_open (judged_rows day columns sheet.table.rows.items)).few in
    omega (arith, length-map all reg_of, small)

regs_differ : (day : Date) (sheet : Option Sheet) (columns : Option RegulationColumns) → IsDistinct same_text (map reg_of (opened day sheet columns))
unfolding IsDistinct
regs_differ day None columns = tt
regs_differ day (Some sheet) None = tt
regs_differ day (Some sheet) (Some columns) = (all_may_open (judged_rows day columns sheet.table.rows.items)).apart

keys_differ : (options : ImportOptions) (crossings : Text → List Crossing) (sheet : Option Sheet) (columns : Option FlightColumns)
    → IsDistinct have_one_key (filed options crossings sheet columns).plans
unfolding IsDistinct
keys_differ options crossings None columns = tt
keys_differ options crossings (Some sheet) None = tt
keys_differ options crossings (Some sheet) (Some columns) = keys options columns crossings sheet.table.rows.items

in_order_differ : (order : Order) (before after : List FlightPlan) → IsInOrder order before after → IsDistinct have_one_key before → IsDistinct have_one_key after
in_order_differ File before after same differ = subst (IsDistinct have_one_key) (sym same) differ
in_order_differ Eobt before after sorted differ = keys-sorted before after sorted differ

pub calls_are_taken : CallsAreTaken
calls_are_taken m begin asked sheets columns made is =
    let os = opened asked.day sheets.regs columns.regs in
    let plans = made.filings.plans.items in
    let differ : IsDistinct have_one_key plans =
    in_order_differ asked.order _ plans is.plans (keys_differ made.options _ sheets.flights columns.flights) in
    let none_open : length m.regs ≡ 0 = ap length begin.regs in
    let small : length os ≤ 256 = few asked.day sheets.regs columns.regs in
    let is_few : length m.regs + length os ≤ 256 = omega (arith, none_open, small) in
    subst (λ openings. AreTaken m (map open_call openings ++ map file_call plans)) (sym is.openings)
    (opened_then os (map file_call plans) m begin.midnight begin.rows (regs_differ asked.day sheets.regs columns.regs) (all_free m begin.regs os) is_few
    (λ n midnight none. taken plans n midnight differ (all_new n none plans)))
