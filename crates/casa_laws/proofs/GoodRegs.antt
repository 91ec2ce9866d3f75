-- OpenReg, CloseReg and Rates keep a state good, and so does every call
use Rattle.std.proofs.Common.{◌≡◌, ℕ, List, [], ◌∷◌, length, take, drop, Bool, true, false, cond, not, ◌&&◌, ◌||◌, refl, sym, ap, ◌∙◌, Option, None, Some, unwrap_or, subst}
use Rattle.std.specs.Option.{option_map}
use Rattle.std.specs.List.{AllByRecursion, list_any, filter_map, cons_option, fold, insert, position}
use Rattle.std.specs.List.Sorted.{IsStrictlySortedBy}
use Rattle.std.specs.BTreeMap.{is_at}
use Rattle.std.specs.Ordering.{is_eq}
use Rattle.std.specs.Cmp.Lexicographic.{same_text as text_is}
use Rattle.std.proofs.lemmas.Bool.{or_right, or_left, both_ways, or_from}
use Rattle.std.proofs.lemmas.List.{take-append-drop}
use Rattle.std.proofs.lemmas.List.Folds.{list_any-append}
use Rattle.casa_grid.specs.declared.period.Period.{Period}
use Rattle.casa_flight.specs.declared.call.Call.{Call}
use Rattle.casa_flight.specs.declared.call.Call.TheVariants.{File, Amend, Cancel, Revise, Exempt, OpenReg, CloseReg, Rates, Tick, Show, List as ListOf, Swap}
use Rattle.casa_flight.specs.declared.call.Refusal.{Refusal}
use Rattle.casa_flight.specs.declared.comp.Comp.{Comp}
use Rattle.casa_filing.specs.declared.regulation.Regulation.{Regulation}
use Rattle.casa_filing.specs.declared.regulation.Measure.{Measure}
use Rattle.casa_flight.specs.declared.row.Row.{Row}
use Rattle.casa_flight.specs.declared.state.State.{State}
use Rattle.casa_filing.specs.Text.{Text, same_text, at_name, put, without}
use Rattle.casa_filing.specs.FlightPlan.{FlightPlan}
use Rattle.casa_filing.specs.Subject.{regulation, subject}
use Rattle.casa_flight.specs.State.{row_of, measure_of, is_governed_by, ungoverned}
use Rattle.casa_flight.specs.Listing.{insert_sorted, sorted_by, is_before}
use Rattle.casa_flight.specs.Entry.{enter_all, reenter}
use Rattle.casa_flight.specs.Steps.{Step, refused, new_row, flights_over, may_compete, take_in, ungoverned_if, state_without_regulation, step, next}
use Rattle.casa_flight.specs.Good.{IsGood, IsGoodRow, IsGoverned}
use Rattle.casa_filing.proofs.Entries.{text_cmp, all-put, all-remove, all_at, all-each, all-both, all-map, keys-map, sorted-put, sorted-remove, same_name, apart, itself, at-put_other, at-without_other, none_at}
use Rattle.casa_laws.proofs.Outcomes.{file_cases, amend_cases, cancel_cases, revise_cases, exempt_cases, open_cases, close_cases, rates_cases, tick_cases, show_cases, list_cases, swap_cases}
use Rattle.casa_laws.proofs.Good.{IsRowBut, IsGoodBut, none_waits, KeepsGood, enter-good, enter-from_good, from_but, row-looser, good_row, without-good, exempted-good}
use Rattle.casa_laws.proofs.Swap.{exchange-good}
use Rattle.casa_laws.proofs.GoodTick.{tick-good, rates_governed, rated-good, KeepsSpan, span_kept, same_end}

-- whether a key is of one of the flights that are still to enter
abbrev waits : List Comp → Text → Bool
waits cs q = list_any (λ (c : Comp). is_eq (text_cmp c.key q)) cs

less : (c : Comp) (cs : List Comp) (q : Text) → is_eq (text_cmp c.key q) ≡ false → waits cs q ≡ false → waits (c ∷ cs) q ≡ false
less c cs q apart w = or_from _ _ apart w

-- the next flight enters, and waits no more
reenter-good : (c : Comp) (cs : List Comp) (m : State) (o : Option Row) → row_of m c.key ≡ o → IsGoodBut (waits (c ∷ cs)) m → IsGoodBut (waits cs) (reenter m c.key o)
reenter-good c cs m None found good = record {
  rows_in_order = good.rows_in_order;
  regs_in_order = good.regs_in_order;
  rows = all-each (λ (e : Text × Row). IsRowBut (waits (c ∷ cs) e.0) m.clock m.regs e.0 e.1 × (is_eq (text_cmp c.key e.0) ≡ false)) (λ (e : Text × Row). IsRowBut (waits cs e.0) m.clock m.regs e.0 e.1)
      (λ e r. row-looser m.clock m.regs e.0 e.1 (waits (c ∷ cs) e.0) (waits cs e.0) (less c cs e.0 r.1) r.0) m.rows
      (all-both (λ (e : Text × Row). IsRowBut (waits (c ∷ cs) e.0) m.clock m.regs e.0 e.1) (λ (e : Text × Row). is_eq (text_cmp c.key e.0) ≡ false) m.rows good.rows (none_at c.key m.rows found));
}
reenter-good c cs m (Some row) found good =
    let r : IsRowBut (waits (c ∷ cs) c.key) m.clock m.regs c.key row = all_at (λ (e : Text × Row). IsRowBut (waits (c ∷ cs) e.0) m.clock m.regs e.0 e.1) c.key row m.rows good.rows found in
    enter-good (waits (c ∷ cs)) (waits cs) m c.key (ungoverned row) (less c cs) good r.keyed refl refl

enter_all-good : (cs : List Comp) (m : State) → IsGoodBut (waits cs) m → IsGoodBut none_waits (enter_all m cs)
enter_all-good [] m good = good
enter_all-good (c ∷ cs) m good = enter_all-good cs (reenter m c.key (row_of m c.key)) (reenter-good c cs m (row_of m c.key) refl good)

-- what is put in order has the same members
regroup : (a b c : Bool) → (a || (b || c)) ≡ (b || (a || c))
regroup true true c = refl
regroup true false c = refl
regroup false true c = refl
regroup false false c = refl

or_assoc : (a b c : Bool) → (a || (b || c)) ≡ ((a || b) || c)
or_assoc true b c = refl
or_assoc false b c = refl

or_none : (a : Bool) → (a || false) ≡ a
or_none true = refl
or_none false = refl

any-insert : {X : Type 0} (p : X → Bool) (x : X) (i : ℕ) (xs : List X) → list_any p (insert xs i x) ≡ (p x || list_any p xs)
any-insert {X} p x i xs =
    list_any-append p (take i xs) (x ∷ drop i xs) ∙ regroup (list_any p (take i xs)) (p x) (list_any p (drop i xs))
    ∙ ap (λ b. p x || b) (sym (list_any-append p (take i xs) (drop i xs)) ∙ ap (λ (ys : List X). list_any p ys) (take-append-drop i xs))

pub any-put_by : {X : Type 0} (precedes : X → X → Bool) (p : X → Bool) (x : X) (xs : List X) → list_any p (insert_sorted precedes x xs) ≡ (p x || list_any p xs)
any-put_by precedes p x xs = any-insert p x (unwrap_or (position (λ y. not (precedes y x)) xs) (length xs)) xs

pub any-fold : {X : Type 0} (precedes : X → X → Bool) (p : X → Bool) (xs ys : List X) → list_any p (fold (λ ys x. insert_sorted precedes x ys) ys xs) ≡ (list_any p xs || list_any p ys)
any-fold precedes p [] ys = refl
any-fold precedes p (x ∷ xs) ys =
    any-fold precedes p xs (insert_sorted precedes x ys) ∙ ap (λ b. list_any p xs || b) (any-put_by precedes p x ys)
    ∙ regroup (list_any p xs) (p x) (list_any p ys) ∙ or_assoc (p x) (list_any p xs) (list_any p ys)

pub any-in_order : {X : Type 0} (precedes : X → X → Bool) (p : X → Bool) (xs : List X) → list_any p (sorted_by precedes xs) ≡ list_any p xs
any-in_order precedes p xs = any-fold precedes p xs [] ∙ or_none (list_any p xs)

-- a flight over a regulation, by whether it passes a test and its time over there
abbrev pub comp_if : Bool → Option ℕ → Text → Option Comp
comp_if b o key = cond b (option_map (λ (eto : ℕ). record { eto = eto; key = key }) o) None

abbrev comps : (Row → Bool) → Regulation → List (Text × Row) → List Comp
comps test r rows = filter_map (λ (e : Text × Row). comp_if (test e.1) (subject e.1.plan r) e.0) rows

pub comp_if-key : (b : Bool) (o : Option ℕ) (key : Text) (c : Comp) → comp_if b o key ≡ Some c → c.key ≡ key
comp_if-key true (Some eto) key c h = let same : record { eto = eto; key = key } ≡ c = cc in sym (ap (λ (d : Comp). d.key) same)
comp_if-key true None key c h = cc
comp_if-key false o key c h = cc

-- each row that gives such a flight waits
each_waits : (test : Row → Bool) (r : Regulation) (all : List Comp) (es : List (Text × Row)) → ((q : Text) → waits (comps test r es) q ≡ true → waits all q ≡ true)
    → AllByRecursion (λ (e : Text × Row). waits all e.0 ≡ false → comp_if (test e.1) (subject e.1.plan r) e.0 ≡ None) es
each_waits test r all [] sub = tt
each_waits test r all (e ∷ es) sub =
    elim (comp_if (test e.1) (subject e.1.plan r) e.0) as (λ (o : Option Comp). comp_if (test e.1) (subject e.1.plan r) e.0 ≡ o → ((q : Text) → waits (cons_option o (comps test r es)) q ≡ true → waits all q ≡ true) → (waits all e.0 ≡ false → o ≡ None) × AllByRecursion (λ (y : Text × Row). waits all y.0 ≡ false → comp_if (test y.1) (subject y.1.plan r) y.0 ≡ None) es) [
      | None ↦ λ t s. ((λ w. refl), each_waits test r all es s)
      | Some c ↦ λ t s.
          let key_is : c.key ≡ e.0 = comp_if-key (test e.1) (subject e.1.plan r) e.0 c t in
          let here : is_eq (text_cmp c.key e.0) ≡ true = subst (λ (q : Text). is_eq (text_cmp c.key q) ≡ true) key_is (itself c.key) in
          ((λ w. absurd (both_ways _ w (s e.0 (or_left _ _ here)))), each_waits test r all es (λ q h. s q (or_right _ _ h)))
    ] refl sub

-- after the flights over a regulation are taken, a row that does not wait gives none
flights_wait : (test : Row → Bool) (r : Regulation) (es : List (Text × Row)) → AllByRecursion (λ (e : Text × Row). waits (flights_over test r es) e.0 ≡ false → comp_if (test e.1) (subject e.1.plan r) e.0 ≡ None) es
flights_wait test r es = each_waits test r (flights_over test r es) es (λ q h. any-in_order is_before (λ (c : Comp). is_eq (text_cmp c.key q)) (comps test r es) ∙ h)

-- a row that gives no newcomer of the regulation
no_comp : (x g : Bool) (o : Option ℕ) (key : Text) → comp_if (not x && (not g && true)) o key ≡ None → x ≡ false → g ≡ false → o ≡ None
no_comp false false None key h p q = refl
no_comp false false (Some e) key h p q = cc
no_comp true g o key h p q = cc
no_comp false true o key h p q = cc

-- what is governed stays governed with this measure
abbrev KeepsGoverned : ℕ → List (Text × Measure) → Text → Measure → Type 0
KeepsGoverned clock regs id measure = (row : Row) (by : Text) → IsGoverned clock regs row by → IsGoverned clock (put regs id measure) row by

-- each row once a regulation has this measure, which opens or ends later: what it takes in waits to enter
take_in_row : (clock : ℕ) (regs : List (Text × Measure)) (id : Text) (measure : Measure) (w : Bool) (key : Text) (plan : FlightPlan) (marked : Bool) (g : Option Text) (i : Option ℕ) → KeepsGoverned clock regs id measure
    → IsGoodRow clock regs key (record { plan = plan; marked = marked; governing = g; issued = i })
    → (w ≡ false → comp_if (may_compete clock (record { plan = plan; marked = marked; governing = g; issued = i })) (subject plan (regulation id measure)) key ≡ None)
    → IsRowBut w clock (put regs id measure) key (record { plan = plan; marked = marked; governing = g; issued = i })
take_in_row clock regs id measure w key plan marked None i keeps good waiting = record {
  keyed = good.keyed;
  standing = (good.standing.not_issued, λ h p q. all-put (λ (e : Text × Measure). subject plan (regulation e.0 e.1) ≡ None) id measure (no_comp _ _ (subject plan (regulation id measure)) key (waiting h) p q) regs (good.standing.left p q));
}
take_in_row clock regs id measure w key plan marked (Some by) i keeps good waiting = record {
  keyed = good.keyed;
  standing = keeps (record { plan = plan; marked = marked; governing = Some by; issued = i }) by good.standing;
}

take_in-good : (m : State) (id : Text) (measure : Measure) → KeepsGoverned m.clock m.regs id measure → IsGood m → IsGood (take_in m id measure)
take_in-good m id measure keeps good =
    let n : State = record m { regs = put m.regs id measure } in
    let cs : List Comp = flights_over (may_compete m.clock) (regulation id measure) m.rows in
    from_but (enter_all n cs) (enter_all-good cs n (record {
      rows_in_order = good.rows_in_order;
      regs_in_order = sorted-put id measure m.regs good.regs_in_order;
      rows = all-each (λ (e : Text × Row). IsGoodRow m.clock m.regs e.0 e.1 × (waits cs e.0 ≡ false → comp_if (may_compete m.clock e.1) (subject e.1.plan (regulation id measure)) e.0 ≡ None))
          (λ (e : Text × Row). IsRowBut (waits cs e.0) m.clock (put m.regs id measure) e.0 e.1)
          (λ e r. take_in_row m.clock m.regs id measure (waits cs e.0) e.0 e.1.plan e.1.marked e.1.governing e.1.issued keeps r.0 r.1) m.rows
          (all-both (λ (e : Text × Row). IsGoodRow m.clock m.regs e.0 e.1) (λ (e : Text × Row). waits cs e.0 ≡ false → comp_if (may_compete m.clock e.1) (subject e.1.plan (regulation id measure)) e.0 ≡ None)
          m.rows good.rows (flights_wait (may_compete m.clock) (regulation id measure) m.rows));
    }))

-- what other regulations govern is as it was when one opens
open_governed : (clock : ℕ) (regs : List (Text × Measure)) (id : Text) (measure : Measure) → at_name regs id ≡ None → KeepsGoverned clock regs id measure
open_governed clock regs id measure absent row by h =
    elim (is_eq (text_cmp by id)) as (λ b. is_eq (text_cmp by id) ≡ b → IsGoverned clock (put regs id measure) row by) [
      | true ↦ λ t. let none : None ≡ Some h.measure = sym absent ∙ ap (λ (q : Text). at_name regs q) (sym (same_name by id t)) ∙ h.is_open in absurd (let no : ⊥ = cc in no)
      | false ↦ λ t. record { measure = h.measure; is_open = at-put_other by id measure regs t ∙ h.is_open; eto = h.eto; is_subject = h.is_subject; not_exempt = h.not_exempt; issued = h.issued }
    ] refl

pub opened-good : (m : State) (id : Text) (measure : Measure) → measure_of m id ≡ None → IsGood m → IsGood (take_in m id measure)
opened-good m id measure absent good = take_in-good m id measure (open_governed m.clock m.regs id measure absent) good

-- a flight that the closed regulation governs is one of those over it
some_comp : (o : Option ℕ) (eto : ℕ) (key : Text) → o ≡ Some eto → comp_if true o key ≡ None → ⊥
some_comp None eto key p h = cc
some_comp (Some n) eto key p h = cc

-- each row once the regulation is closed: what it governed is free and waits to enter
close_row : (clock : ℕ) (regs : List (Text × Measure)) (id : Text) (measure : Measure) (w : Bool) (key : Text) (plan : FlightPlan) (marked : Bool) (g : Option Text) (i : Option ℕ) → at_name regs id ≡ Some measure
    → IsGoodRow clock regs key (record { plan = plan; marked = marked; governing = g; issued = i })
    → (w ≡ false → comp_if (is_governed_by id (record { plan = plan; marked = marked; governing = g; issued = i })) (subject plan (regulation id measure)) key ≡ None)
    → IsRowBut w clock (without regs id) key (ungoverned_if (is_governed_by id (record { plan = plan; marked = marked; governing = g; issued = i })) (record { plan = plan; marked = marked; governing = g; issued = i }))
close_row clock regs id measure w key plan marked None i found good waiting = record {
  keyed = good.keyed;
  standing = (good.standing.not_issued, λ h p q. all-remove (λ (e : Text × Measure). subject plan (regulation e.0 e.1) ≡ None) (is_at (text_cmp id)) regs (good.standing.left p q));
}
close_row clock regs id measure w key plan marked (Some by) i found good waiting =
    let s = good.standing in
    let row : Row = record { plan = plan; marked = marked; governing = Some by; issued = i } in
    elim (same_text id by) as (λ b. same_text id by ≡ b → (w ≡ false → comp_if b (subject plan (regulation id measure)) key ≡ None) → IsRowBut w clock (without regs id) key (ungoverned_if b row)) [
      | true ↦ λ t wt.
          let here : id ≡ by = text_is id by (sym t) in
          let measures : Some measure ≡ Some s.measure = sym found ∙ ap (λ (q : Text). at_name regs q) here ∙ s.is_open in
          let same : measure ≡ s.measure = cc in
          let is_subject : subject plan (regulation id measure) ≡ Some s.eto = ap (λ (y : Measure). subject plan (regulation id y)) same ∙ s.is_subject in
          record { keyed = good.keyed; standing = (refl, λ h p q. absurd (some_comp (subject plan (regulation id measure)) s.eto key is_subject (wt h))) }
      | false ↦ λ t wt. record {
        keyed = good.keyed;
        standing = record { measure = s.measure; is_open = at-without_other by id regs (apart id by t) ∙ s.is_open; eto = s.eto; is_subject = s.is_subject; not_exempt = s.not_exempt; issued = s.issued };
      }
    ] refl waiting

-- what a closed regulation governed has entered anew
pub closed-good : (m : State) (id : Text) (measure : Measure) → measure_of m id ≡ Some measure → IsGood m
    → IsGood (enter_all (state_without_regulation m id) (flights_over (is_governed_by id) (regulation id measure) m.rows))
closed-good m id measure found good =
    let f : Text × Row → Row = λ e. ungoverned_if (is_governed_by id e.1) e.1 in
    let n : State = state_without_regulation m id in
    let cs : List Comp = flights_over (is_governed_by id) (regulation id measure) m.rows in
    from_but (enter_all n cs) (enter_all-good cs n (record {
      rows_in_order = subst (IsStrictlySortedBy text_cmp) (sym (keys-map f m.rows)) good.rows_in_order;
      regs_in_order = sorted-remove (is_at (text_cmp id)) m.regs good.regs_in_order;
      rows = all-map (λ (e : Text × Row). IsGoodRow m.clock m.regs e.0 e.1 × (waits cs e.0 ≡ false → comp_if (is_governed_by id e.1) (subject e.1.plan (regulation id measure)) e.0 ≡ None))
          (λ (e : Text × Row). IsRowBut (waits cs e.0) m.clock (without m.regs id) e.0 e.1) f
          (λ e r. close_row m.clock m.regs id measure (waits cs e.0) e.0 e.1.plan e.1.marked e.1.governing e.1.issued found r.0 r.1) m.rows
          (all-both (λ (e : Text × Row). IsGoodRow m.clock m.regs e.0 e.1) (λ (e : Text × Row). waits cs e.0 ≡ false → comp_if (is_governed_by id e.1) (subject e.1.plan (regulation id measure)) e.0 ≡ None)
          m.rows good.rows (flights_wait (is_governed_by id) (regulation id measure) m.rows));
    }))

-- a regulation that ends later has taken flights in
pub extended-good : (m : State) (id : Text) (measure : Measure) (profile : List Period) → measure_of m id ≡ Some measure → KeepsSpan profile measure.profile → IsGood m
    → IsGood (take_in m id (record measure { profile = profile }))
extended-good m id measure profile found k good =
    take_in-good m id (record measure { profile = profile }) (λ row by. rates_governed m.clock m.regs id measure profile row by found k.start k.end) good

-- every call keeps a good state good
pub next-good : (m : State) (call : Call) → IsGood m → IsGood (next m call)
next-good m call good = by call
  where
    P : Step → Type 0
    P = KeepsGood m

    refusal : (r : Refusal) → P (refused r)
    refusal r = good

    by : (call : Call) → P (step m call)
    by (File plan) = file_cases m P refusal plan (λ absent. enter-from_good m plan.key (new_row plan) good refl refl refl)
    by (Amend plan) = amend_cases m P refusal plan (λ row found. enter-from_good m plan.key (record (ungoverned row) { plan = plan }) good refl refl refl)
    by (Cancel key) = cancel_cases m P refusal key (λ row found. without-good m key good)
    by (Revise key) =
        revise_cases m P refusal key (λ row found not. good)
        (λ row found revised. enter-from_good m key (ungoverned row) good (good_row m key row good found).keyed refl refl)
    by (Exempt key) = exempt_cases m P refusal key (λ row found not. exempted-good m key row good found)
    by (OpenReg id loc profile) = open_cases m P refusal id loc profile (λ absent. opened-good m id (record { loc = loc; profile = profile }) absent good)
    by (CloseReg id) = close_cases m P refusal id (λ measure found. closed-good m id measure found good)
    by (Rates id profile) =
        rates_cases m P refusal id profile
        (λ measure found span same.
        let k = span_kept profile measure.profile span in
        rated-good m id measure profile found k.start (same_end profile measure.profile k same) good)
        (λ measure found span later. extended-good m id measure profile found (span_kept profile measure.profile span) good)
    by (Tick at) = tick_cases m P refusal at (λ forward. tick-good m at forward good)
    by (Show key) = show_cases m P refusal key good
    by (ListOf id) = list_cases m P refusal id good
    by (Swap key other) = swap_cases m P refusal key other (λ row mate cto time can. exchange-good m (record { key = key; row = row; cto = cto; other = other; mate = mate; time = time }) good can)
