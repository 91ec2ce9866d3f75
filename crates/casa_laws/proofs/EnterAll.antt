-- flights that enter: what entering makes of a row, and what flights that enter one by one leave as it was
use Rattle.std.proofs.Common.{◌≡◌, ℕ, List, [], ◌∷◌, ◌++◌, Bool, true, false, cond, ◌||◌, refl, sym, ap, subst, ◌∙◌, Option, None, Some, is_some}
use Rattle.std.specs.Option.{option_map, option_map_or}
use Rattle.std.specs.Ordering.{is_eq}
use Rattle.std.specs.List.{AllByRecursion}
use Rattle.std.proofs.lemmas.Bool.{or_parts, both_ways}
use Rattle.casa_flight.specs.declared.comp.Comp.{Comp}
use Rattle.casa_filing.specs.declared.regulation.Regulation.{Regulation}
use Rattle.casa_flight.specs.declared.row.Row.{Row}
use Rattle.casa_flight.specs.declared.state.State.{State}
use Rattle.casa_filing.specs.Text.{Text, same_text}
use Rattle.casa_filing.specs.FlightPlan.{FlightPlan}
use Rattle.casa_filing.specs.Subject.{subject, is_due, is_gone}
use Rattle.casa_flight.specs.State.{row_of, is_exempt, ungoverned}
use Rattle.casa_flight.specs.Listing.{is_before}
use Rattle.casa_flight.specs.Entry.{Offer, Situation, situation, choice, governed, row_after_entry, enter_all, reenter}
use Rattle.casa_flight.specs.Steps.{flights_over}
use Rattle.casa_flight.specs.Good.{IsGood}
use Rattle.casa_flight.proofs.PutBy.{all-fold}
use Rattle.casa_filing.proofs.Entries.{text_cmp, same_name, named, apart, all-each, all-filter_map, each_found, at-put, at-put_other}

-- a flight that enters keeps all but what governs it and its issue: its plan and its mark
entered_rest : (s : Situation) (key : Text) (row : Row) → ungoverned (row_after_entry s key row) ≡ ungoverned row
entered_rest s key row =
    elim (is_exempt row || is_gone s.clock row.plan) as (λ b. ungoverned (cond b row (option_map_or (governed s.clock row) (choice s key row.plan) row)) ≡ ungoverned row) [
      | true ↦ refl
      | false ↦ elim (choice s key row.plan) as (λ (o : Option Offer). ungoverned (option_map_or (governed s.clock row) o row) ≡ ungoverned row) [ None ↦ refl | Some o ↦ refl ]
    ]

pub entered_plan : (s : Situation) (key : Text) (row : Row) → (row_after_entry s key row).plan ≡ row.plan
entered_plan s key row = ap (λ (r : Row). r.plan) (entered_rest s key row)

-- one that is issued when it enters is neither exempt nor gone, it is due, and a regulation was chosen
pub record IsIssuedNow (s : Situation) (key : Text) (row : Row) : Type 0 where
  pub plain : is_exempt row ≡ false
  pub here : is_gone s.clock row.plan ≡ false
  pub due : is_due s.clock row.plan ≡ true
  pub offer : Offer
  pub chosen : choice s key row.plan ≡ Some offer

pub issued_now : (s : Situation) (key : Text) (row : Row) → row.issued ≡ None → is_some (row_after_entry s key row).issued ≡ true → IsIssuedNow s key row
issued_now s key row waiting h =
    elim (is_exempt row || is_gone s.clock row.plan) as (λ b. (is_exempt row || is_gone s.clock row.plan) ≡ b → is_some (cond b row (option_map_or (governed s.clock row) (choice s key row.plan) row)).issued ≡ true → IsIssuedNow s key row) [
      | true ↦ λ t f. absurd (none_there f)
      | false ↦ λ t f.
          let parts = or_parts (is_exempt row) (is_gone s.clock row.plan) t in
          elim (choice s key row.plan) as (λ (o : Option Offer). choice s key row.plan ≡ o → is_some (option_map_or (governed s.clock row) o row).issued ≡ true → IsIssuedNow s key row) [
            | None ↦ λ c g. absurd (none_there g)
            | Some o ↦ λ c g.
                elim (is_due s.clock row.plan) as (λ b. is_due s.clock row.plan ≡ b → is_some (cond b (Some o.cto) None) ≡ true → IsIssuedNow s key row) [
                  | true ↦ λ d i. record { plain = parts.0; here = parts.1; due = d; offer = o; chosen = c }
                  | false ↦ λ d i. cc
                ] refl g
          ] refl f
    ] refl h
  where
    none_there : is_some row.issued ≡ true → ⊥
    none_there f = both_ways (is_some row.issued) (ap is_some waiting) f

-- and one that is due, neither exempt nor gone, and has a choice, is issued
pub issues : (s : Situation) (key : Text) (row : Row) (o : Offer) → is_exempt row ≡ false → is_gone s.clock row.plan ≡ false → is_due s.clock row.plan ≡ true → choice s key row.plan ≡ Some o → is_some (row_after_entry s key row).issued ≡ true
issues s key row o plain here due chosen = rw (plain, here, chosen, due)

-- one by one: a flight that is none of them keeps its row, and each keeps its plan
row-reenter : (s : State) (key other : Text) (w : Option Row) → same_text key other ≡ false → row_of (reenter s key w) other ≡ row_of s other
row-reenter s key other None h = refl
row-reenter s key other (Some row) h = at-put_other other key (row_after_entry (situation s) key (ungoverned row)) s.rows (apart key other h)

pub row-enter_all : (s : State) (other : Text) (cs : List Comp) → AllByRecursion (λ (c : Comp). same_text c.key other ≡ false) cs → row_of (enter_all s cs) other ≡ row_of s other
row-enter_all s other [] h = refl
row-enter_all s other (c ∷ cs) h = row-enter_all (reenter s c.key (row_of s c.key)) other cs h.1 ∙ row-reenter s c.key other (row_of s c.key) h.0

abbrev rest_at : State → Text → Option Row
rest_at s key = option_map ungoverned (row_of s key)

rest-reenter : (s : State) (key other : Text) (w : Option Row) → row_of s key ≡ w → rest_at (reenter s key w) other ≡ rest_at s other
rest-reenter s key other None found = refl
rest-reenter s key other (Some row) found =
    let new : Row = row_after_entry (situation s) key (ungoverned row) in
    ap (option_map ungoverned) (at-put other key new s.rows)
    ∙ (elim (is_eq (text_cmp other key)) as (λ b. is_eq (text_cmp other key) ≡ b → option_map ungoverned (cond b (Some new) (row_of s other)) ≡ rest_at s other) [
      | true ↦ λ t. ap (λ (r : Row). Some r) (entered_rest (situation s) key (ungoverned row)) ∙ sym (ap (option_map ungoverned) (ap (row_of s) (same_name other key t) ∙ found))
      | false ↦ λ t. refl
    ] refl)

pub rest-enter_all : (s : State) (other : Text) (cs : List Comp) → option_map ungoverned (row_of (enter_all s cs) other) ≡ option_map ungoverned (row_of s other)
rest-enter_all s other [] = refl
rest-enter_all s other (c ∷ cs) = rest-enter_all (reenter s c.key (row_of s c.key)) other cs ∙ rest-reenter s c.key other (row_of s c.key) refl

abbrev pub plan_at : State → Text → Option FlightPlan
plan_at s key = option_map (λ (row : Row). row.plan) (row_of s key)

plan_of_rest : (w : Option Row) → option_map (λ (row : Row). row.plan) (option_map ungoverned w) ≡ option_map (λ (row : Row). row.plan) w
plan_of_rest None = refl
plan_of_rest (Some row) = refl

pub plan-enter_all : (s : State) (other : Text) (cs : List Comp) → plan_at (enter_all s cs) other ≡ plan_at s other
plan-enter_all s other cs =
    sym (plan_of_rest (row_of (enter_all s cs) other)) ∙ ap (option_map (λ (row : Row). row.plan)) (rest-enter_all s other cs) ∙ plan_of_rest (row_of s other)

-- neither the clock nor a regulation changes
clock-reenter : (s : State) (key : Text) (w : Option Row) → (reenter s key w).clock ≡ s.clock
clock-reenter s key None = refl
clock-reenter s key (Some row) = refl

pub clock-enter_all : (s : State) (cs : List Comp) → (enter_all s cs).clock ≡ s.clock
clock-enter_all s [] = refl
clock-enter_all s (c ∷ cs) = clock-enter_all (reenter s c.key (row_of s c.key)) cs ∙ clock-reenter s c.key (row_of s c.key)

regs-reenter : (s : State) (key : Text) (w : Option Row) → (reenter s key w).regs ≡ s.regs
regs-reenter s key None = refl
regs-reenter s key (Some row) = refl

pub regs-enter_all : (s : State) (cs : List Comp) → (enter_all s cs).regs ≡ s.regs
regs-enter_all s [] = refl
regs-enter_all s (c ∷ cs) = regs-enter_all (reenter s c.key (row_of s c.key)) cs ∙ regs-reenter s c.key (row_of s c.key)

-- what holds of each of two lists holds of each of them joined
pub all-append : {X : Type 0} (P : X → Type 0) (xs ys : List X) → AllByRecursion P xs → AllByRecursion P ys → AllByRecursion P (xs ++ ys)
all-append P [] ys h g = g
all-append P (x ∷ xs) ys h g = (h.0, all-append P xs ys h.1 g)

over_key : (P : Text → Type 0) (key : Text) (c : Comp) (b : Bool) (w : Option ℕ) → cond b (option_map (λ (eto : ℕ). let d : Comp = record { eto = eto; key = key } in d) w) None ≡ Some c → (b ≡ true → is_some w ≡ true → P key) → P c.key
over_key P key c true (Some eto) e f = let keys : key ≡ c.key = ap (λ (o : Option Comp). option_map_or (λ (d : Comp). d.key) o key) e in subst P keys (f refl refl)
over_key P key c true None e f = cc
over_key P key c false w e f = cc

-- what holds of the keys of all flights that pass the test and are subject to the regulation holds of those taken
pub all-flights_over : (P : Text → Type 0) (test : Row → Bool) (r : Regulation) (rows : List (Text × Row)) → AllByRecursion (λ (e : Text × Row). test e.1 ≡ true → is_some (subject e.1.plan r) ≡ true → P e.0) rows
    → AllByRecursion (λ (c : Comp). P c.key) (flights_over test r rows)
all-flights_over P test r rows h =
    all-fold (λ (c : Comp). P c.key) is_before _ []
    (all-filter_map (λ (e : Text × Row). test e.1 ≡ true → is_some (subject e.1.plan r) ≡ true → P e.0) (λ (c : Comp). P c.key) _
    (λ e c f is. over_key P e.0 c (test e.1) (subject e.1.plan r) is f) rows h) tt

-- only flights with other keys than this one's pass a test that its own does not pass
pub others : (m : State) (key : Text) (test : Row → Bool) → IsGood m → option_map_or test (row_of m key) false ≡ false → AllByRecursion (λ (e : Text × Row). test e.1 ≡ true → same_text e.0 key ≡ false) m.rows
others m key test good none =
    all-each (λ (e : Text × Row). row_of m e.0 ≡ Some e.1) (λ (e : Text × Row). test e.1 ≡ true → same_text e.0 key ≡ false) (λ e found h. other e found h (same_text e.0 key) refl) m.rows (each_found m.rows good.rows_in_order)
  where
    other : (e : Text × Row) → row_of m e.0 ≡ Some e.1 → test e.1 ≡ true → (b : Bool) → same_text e.0 key ≡ b → b ≡ false
    other e found h false p = refl
    other e found h true p =
        let here : row_of m key ≡ Some e.1 = subst (λ t. row_of m t ≡ Some e.1) (named e.0 key p) found in
        absurd (both_ways _ none (ap (λ (w : Option Row). option_map_or test w false) here ∙ h))

-- a flight that does not pass the test is none of those taken
pub not_taken : (m : State) (key : Text) (test : Row → Bool) (r : Regulation) → IsGood m → option_map_or test (row_of m key) false ≡ false → AllByRecursion (λ (c : Comp). same_text c.key key ≡ false) (flights_over test r m.rows)
not_taken m key test r good none =
    all-flights_over (λ q. same_text q key ≡ false) test r m.rows
    (all-each (λ (e : Text × Row). test e.1 ≡ true → same_text e.0 key ≡ false) (λ (e : Text × Row). test e.1 ≡ true → is_some (subject e.1.plan r) ≡ true → same_text e.0 key ≡ false)
    (λ e f h _. f h) m.rows (others m key test good none))
