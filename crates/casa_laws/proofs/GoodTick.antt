-- Tick, and Rates with the same end, keep a state good
use Rattle.std.proofs.Common.{◌≡◌, ℕ, ◌+◌, ◌≤◌, List, Bool, true, false, ◌==◌, nat_lt, nat_le, refl, sym, ap, ◌∙◌, Option, None, Some, subst, arith, MatchOption}
use Rattle.std.specs.Option.{option_map, option_map_or, option_and_then}
use Rattle.std.specs.List.Sorted.{IsStrictlySortedBy}
use Rattle.std.specs.Map.{keys_of}
use Rattle.std.specs.Ordering.{is_eq}
use Rattle.std.proofs.lemmas.Bool.{and_parts, ltb-false, leb-true, le-leb, le-ltb, eqb-true}
use Rattle.std.proofs.lemmas.Cmp.{nat_list_eq_equiv}
use Rattle.casa_time.specs.Due.{issue_lead}
use Rattle.casa_grid.specs.declared.period.Period.{Period}
use Rattle.casa_grid.specs.Profile.{start_of, end_of}
use Rattle.casa_grid.specs.Slots.{slots}
use Rattle.casa_filing.specs.declared.regulation.Measure.{Measure}
use Rattle.casa_flight.specs.declared.row.Row.{Row}
use Rattle.casa_flight.specs.declared.row.Stance.{Stance}
use Rattle.casa_flight.specs.declared.row.Stance.TheVariants.{Competing}
use Rattle.casa_flight.specs.declared.state.State.{State}
use Rattle.casa_filing.specs.Text.{Text, same_text, at_name, put}
use Rattle.casa_filing.specs.FlightPlan.{FlightPlan, etot}
use Rattle.casa_filing.specs.Subject.{regulation, subject, is_due, is_gone}
use Rattle.casa_flight.specs.State.{measure_of}
use Rattle.casa_flight.specs.Listing.{Listing, listing, list_of, stance_in, cto_as, cto_of, place_of}
use Rattle.casa_flight.specs.Entry.{is_to_issue, issued_in, issue_if, issue_due}
use Rattle.casa_flight.specs.Steps.{keeps_span, ends_later}
use Rattle.casa_flight.specs.Good.{IsOutside, IsGood, IsGoodRow, IsFree, IsGoverned}
use Rattle.casa_filing.proofs.Entries.{text_cmp, all-put, all_at, all-each, sorted-put, same_name, at-put_same, at-put_other, each_found, all-both, keys-map, all-map}
use Rattle.casa_laws.proofs.Kept.{at-kept}
use Rattle.casa_laws.proofs.Choice.{cto-between, eto-before_end, subject-later}

-- a flight that is due stays due, and one that is not gone was not gone before
still_due : (old new : ℕ) (plan : FlightPlan) → old ≤ new → is_due old plan ≡ true → is_due new plan ≡ true
still_due old new plan h d =
    let lead : plan.eobt ≤ old + issue_lead = leb-true plan.eobt (old + issue_lead) d in
    le-leb plan.eobt (new + issue_lead) (omega arith)

not_yet_gone : (old new : ℕ) (plan : FlightPlan) → old ≤ new → is_gone new plan ≡ false → is_gone old plan ≡ false
not_yet_gone old new plan h d =
    let later : new ≤ etot plan = ltb-false (etot plan) new d in
    le-ltb (etot plan) old (omega arith)

-- where a governed flight that is not issued stands in the list of its regulation
pub competing : (id : Text) (measure : Measure) (row : Row) (eto : ℕ) → row.governing ≡ Some id → row.issued ≡ None → subject row.plan (regulation id measure) ≡ Some eto → stance_in id measure row ≡ Some (Competing eto)
competing id measure row eto governed not_issued is_subject =
    let itself : option_map_or (same_text id) row.governing false ≡ true = ap (λ (o : Option Text). option_map_or (same_text id) o false) governed ∙ nat_list_eq_equiv.refl id in
    rw (itself, not_issued, is_subject)

-- it has a calculated time over there, from its own to the end of the regulation
has_cto : (m : State) (key : Text) (row : Row) (id : Text) (measure : Measure) (eto : ℕ)
    → IsStrictlySortedBy text_cmp (keys_of m.rows) → at_name m.rows key ≡ Some row
    → row.governing ≡ Some id → row.issued ≡ None → subject row.plan (regulation id measure) ≡ Some eto
    → MatchOption (cto_of (listing m.rows id measure) key) ⊥ (λ cto. (eto ≤ cto) × (cto ≤ end_of measure.profile))
has_cto m key row id measure eto sorted found governed not_issued is_subject =
    let l : Listing = listing m.rows id measure in
    let stands : at_name l.flights key ≡ Some (Competing eto) =
    at-kept (stance_in id measure) key m.rows sorted ∙ ap (λ (w : Option Row). option_and_then (stance_in id measure) w) found ∙ competing id measure row eto governed not_issued is_subject in
    subst (λ (w : Option Stance). MatchOption (option_map (cto_as l key) w) ⊥ (λ cto. (eto ≤ cto) × (cto ≤ end_of measure.profile))) (sym stands)
    (cto-between (slots measure.profile) (end_of measure.profile) eto (place_of l key) (eto-before_end row.plan (regulation id measure) eto is_subject))

-- a flight that is due and has a time is issued right
issued_right : (clock : ℕ) (plan : FlightPlan) (low high : ℕ) (o : Option ℕ) → is_due clock plan ≡ true → MatchOption o ⊥ (λ t. (low ≤ t) × (t ≤ high))
    → MatchOption o (is_due clock plan ≡ false) (λ t. (is_due clock plan ≡ true) × (low ≤ t) × (t ≤ high))
issued_right clock plan low high None due h = absurd h
issued_right clock plan low high (Some t) due h = (due, h.0, h.1)

-- a governed flight stays so at another clock if it is issued as it is to be then
still_governed : (old new : ℕ) (regs : List (Text × Measure)) (id : Text) (plan : FlightPlan) (marked : Bool) (i j : Option ℕ)
    → (s : IsGoverned old regs (record { plan = plan; marked = marked; governing = Some id; issued = i }) id)
    → MatchOption j (is_due new plan ≡ false) (λ cto. (is_due new plan ≡ true) × (s.eto ≤ cto) × (cto ≤ end_of s.measure.profile))
    → IsGoverned new regs (record { plan = plan; marked = marked; governing = Some id; issued = j }) id
still_governed old new regs id plan marked i j s right = record {
  measure = s.measure;
  is_open = s.is_open;
  eto = s.eto;
  is_subject = s.is_subject;
  not_exempt = s.not_exempt;
  issued = right;
}

-- a row that is good at the clock before is good at the new one, issued if it is due. It is given by its parts, so that the
-- cases are of what governs it and whether it is issued
tick_row : (m : State) (old : ℕ) (key : Text) (plan : FlightPlan) (marked : Bool) (g : Option Text) (i : Option ℕ) → old ≤ m.clock
    → IsStrictlySortedBy text_cmp (keys_of m.rows)
    → at_name m.rows key ≡ Some (record { plan = plan; marked = marked; governing = g; issued = i })
    → IsGoodRow old m.regs key (record { plan = plan; marked = marked; governing = g; issued = i })
    → IsGoodRow m.clock m.regs key (issue_if (is_to_issue m.clock (record { plan = plan; marked = marked; governing = g; issued = i })) m key (record { plan = plan; marked = marked; governing = g; issued = i }))
tick_row m old key plan marked None i h sorted found good = record {
  keyed = good.keyed;
  standing = record { not_issued = good.standing.not_issued; left = λ p q. good.standing.left p (not_yet_gone old m.clock plan h q) };
}
tick_row m old key plan marked (Some id) (Some t) h sorted found good =
    let s = good.standing in
    record {
      keyed = good.keyed;
      standing = still_governed old m.clock m.regs id plan marked (Some t) (Some t) s (still_due old m.clock plan h s.issued.0, s.issued.1, s.issued.2);
    }
tick_row m old key plan marked (Some id) None h sorted found good =
    let s = good.standing in
    let row : Row = record { plan = plan; marked = marked; governing = Some id; issued = None } in
    elim (is_due m.clock plan) as (λ b. is_due m.clock plan ≡ b → IsGoodRow m.clock m.regs key (issue_if b m key row)) [
      | true ↦ λ due.
          let listed : list_of m id ≡ Some (listing m.rows id s.measure) = ap (λ (w : Option Measure). option_map (listing m.rows id) w) s.is_open in
          let time : MatchOption (option_and_then (λ (l : Listing). cto_of l key) (list_of m id)) ⊥ (λ cto. (s.eto ≤ cto) × (cto ≤ end_of s.measure.profile)) =
          subst (λ (w : Option Listing). MatchOption (option_and_then (λ (l : Listing). cto_of l key) w) ⊥ (λ cto. (s.eto ≤ cto) × (cto ≤ end_of s.measure.profile))) (sym listed) (has_cto m key row id s.measure s.eto sorted found refl refl s.is_subject) in
          record {
            keyed = good.keyed;
            standing = still_governed old m.clock m.regs id plan marked None (issued_in m key row).issued s (issued_right m.clock plan s.eto (end_of s.measure.profile) (issued_in m key row).issued due time);
          }
      | false ↦ λ due. record { keyed = good.keyed; standing = still_governed old m.clock m.regs id plan marked None None s due }
    ] refl

pub tick-good : (m : State) (at : ℕ) → nat_lt at m.clock ≡ false → IsGood m → IsGood (issue_due (record m { clock = at }))
tick-good m at is good =
    let n : State = record m { clock = at } in
    let f : Text × Row → Row = λ e. issue_if (is_to_issue at e.1) n e.0 e.1 in
    record {
      rows_in_order = subst (IsStrictlySortedBy text_cmp) (sym (keys-map f m.rows)) good.rows_in_order;
      regs_in_order = good.regs_in_order;
      rows = all-map (λ (e : Text × Row). (at_name m.rows e.0 ≡ Some e.1) × IsGoodRow m.clock m.regs e.0 e.1) (λ (e : Text × Row). IsGoodRow at m.regs e.0 e.1) f
          (λ e r. tick_row n m.clock e.0 e.1.plan e.1.marked e.1.governing e.1.issued (ltb-false at m.clock is) good.rows_in_order r.0 r.1) m.rows
          (all-both (λ (e : Text × Row). at_name m.rows e.0 ≡ Some e.1) (λ (e : Text × Row). IsGoodRow m.clock m.regs e.0 e.1) m.rows (each_found m.rows good.rows_in_order) good.rows);
    }

-- a plan's time over depends on the start and end of a profile alone
same_eto : (plan : FlightPlan) (id : Text) (measure : Measure) (profile : List Period) → start_of profile ≡ start_of measure.profile → end_of profile ≡ end_of measure.profile
    → subject plan (regulation id (record measure { profile = profile })) ≡ subject plan (regulation id measure)
same_eto plan id measure profile s e = λ i. subject plan (record { id = id; loc = measure.loc; start = s i; end = e i })

-- with another profile of the same span, what is subject to nothing stays so, and what is governed stays governed
rates_outside : (plan : FlightPlan) (regs : List (Text × Measure)) (id : Text) (measure : Measure) (profile : List Period) → at_name regs id ≡ Some measure
    → start_of profile ≡ start_of measure.profile → end_of profile ≡ end_of measure.profile → IsOutside regs plan → IsOutside (put regs id (record measure { profile = profile })) plan
rates_outside plan regs id measure profile found s e out =
    let P : Text × Measure → Type 0 = λ e. subject plan (regulation e.0 e.1) ≡ None in
    all-put P id (record measure { profile = profile }) (same_eto plan id measure profile s e ∙ all_at P id measure regs out found) regs out

-- an issued time is before the end also where that is later
until_later : (clock : ℕ) (plan : FlightPlan) (low high later : ℕ) → high ≤ later → (o : Option ℕ)
    → MatchOption o (is_due clock plan ≡ false) (λ t. (is_due clock plan ≡ true) × (low ≤ t) × (t ≤ high))
    → MatchOption o (is_due clock plan ≡ false) (λ t. (is_due clock plan ≡ true) × (low ≤ t) × (t ≤ later))
until_later clock plan low high later after None h = h
until_later clock plan low high later after (Some t) h = let before : t ≤ high = h.2 in (h.0, h.1, omega arith)

-- with another profile of the same start whose end is not earlier, what is governed stays governed
pub rates_governed : (clock : ℕ) (regs : List (Text × Measure)) (id : Text) (measure : Measure) (profile : List Period) (row : Row) (by : Text) → at_name regs id ≡ Some measure
    → start_of profile ≡ start_of measure.profile → end_of measure.profile ≤ end_of profile → IsGoverned clock regs row by → IsGoverned clock (put regs id (record measure { profile = profile })) row by
rates_governed clock regs id measure profile row by found s e h =
    let new : Measure = record measure { profile = profile } in
    elim (is_eq (text_cmp by id)) as (λ b. is_eq (text_cmp by id) ≡ b → IsGoverned clock (put regs id new) row by) [
      | true ↦ λ t.
          let here : by ≡ id = same_name by id t in
          let measures : Some h.measure ≡ Some measure = sym h.is_open ∙ ap (λ (q : Text). at_name regs q) here ∙ found in
          let same : h.measure ≡ measure = cc in
          let was : subject row.plan (regulation by measure) ≡ Some h.eto = subst (λ (y : Measure). subject row.plan (regulation by y) ≡ Some h.eto) same h.is_subject in
          let issued : MatchOption row.issued (is_due clock row.plan ≡ false) (λ t. (is_due clock row.plan ≡ true) × (h.eto ≤ t) × (t ≤ end_of measure.profile)) =
          subst (λ (y : Measure). MatchOption row.issued (is_due clock row.plan ≡ false) (λ t. (is_due clock row.plan ≡ true) × (h.eto ≤ t) × (t ≤ end_of y.profile))) same h.issued in
          record {
            measure = new;
            is_open = subst (λ (q : Text). at_name (put regs id new) q ≡ Some new) (sym here) (at-put_same id new regs);
            eto = h.eto;
            is_subject = subst (λ n. subject row.plan (record { id = by; loc = measure.loc; start = n; end = end_of profile }) ≡ Some h.eto) (sym s)
                (subject-later row.plan by measure.loc (start_of measure.profile) (end_of measure.profile) (end_of profile) h.eto e was);
            not_exempt = h.not_exempt;
            issued = until_later clock row.plan h.eto (end_of measure.profile) (end_of profile) e row.issued issued;
          }
      | false ↦ λ t. record { measure = h.measure; is_open = at-put_other by id new regs t ∙ h.is_open; eto = h.eto; is_subject = h.is_subject; not_exempt = h.not_exempt; issued = h.issued }
    ] refl

rates_standing : (clock : ℕ) (regs : List (Text × Measure)) (id : Text) (measure : Measure) (profile : List Period) (row : Row) (o : Option Text) → at_name regs id ≡ Some measure
    → start_of profile ≡ start_of measure.profile → end_of profile ≡ end_of measure.profile
    → MatchOption o (IsFree clock regs row) (IsGoverned clock regs row)
    → MatchOption o (IsFree clock (put regs id (record measure { profile = profile })) row) (IsGoverned clock (put regs id (record measure { profile = profile })) row)
rates_standing clock regs id measure profile row None found s e h = record { not_issued = h.not_issued; left = λ p q. rates_outside row.plan regs id measure profile found s e (h.left p q) }
rates_standing clock regs id measure profile row (Some by) found s e h = rates_governed clock regs id measure profile row by found s (subst (λ n. end_of measure.profile ≤ n) (sym e) (omega arith)) h

-- rates with the same end
pub rated-good : (m : State) (id : Text) (measure : Measure) (profile : List Period) → measure_of m id ≡ Some measure → start_of profile ≡ start_of measure.profile → end_of profile ≡ end_of measure.profile → IsGood m
    → IsGood (record m { regs = put m.regs id (record measure { profile = profile }) })
rated-good m id measure profile found s e good =
    let regs : List (Text × Measure) = put m.regs id (record measure { profile = profile }) in
    record {
      rows_in_order = good.rows_in_order;
      regs_in_order = sorted-put id (record measure { profile = profile }) m.regs good.regs_in_order;
      rows = all-each (λ (e : Text × Row). IsGoodRow m.clock m.regs e.0 e.1) (λ (e : Text × Row). IsGoodRow m.clock regs e.0 e.1)
          (λ y r. record { keyed = r.keyed; standing = rates_standing m.clock m.regs id measure profile y.1 y.1.governing found s e r.standing }) m.rows good.rows;
    }

-- what it says of two profiles that the one keeps the span of the other
pub record KeepsSpan (profile other : List Period) : Type 0 where
  pub start : start_of profile ≡ start_of other
  pub end : end_of other ≤ end_of profile

pub span_kept : (profile other : List Period) → keeps_span profile other ≡ true → KeepsSpan profile other
span_kept profile other h =
    let parts = and_parts (start_of profile == start_of other) (nat_le (end_of other) (end_of profile)) h in
    record { start = eqb-true _ _ parts.0; end = leb-true (end_of other) (end_of profile) parts.1 }

pub same_end : (profile other : List Period) → KeepsSpan profile other → ends_later profile other ≡ false → end_of profile ≡ end_of other
same_end profile other k h =
    let after : end_of profile ≤ end_of other = ltb-false (end_of other) (end_of profile) h in
    let before : end_of other ≤ end_of profile = k.end in
    omega arith
