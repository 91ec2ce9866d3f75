-- what is written as flights enter one by one
use Rattle.std.proofs.Common.{◌≡◌, ℕ, List, [], ◌∷◌, Bool, true, false, refl, sym, ap, subst, ◌∙◌, ◌||◌, Option, None, Some, is_some, if◌then◌else◌, map}
use Rattle.std.specs.Option.{option_map_or}
use Rattle.std.specs.List.{AllByRecursion, list_any}
use Rattle.std.proofs.Math.Bool.{or_assoc}
use Rattle.casa_flight.specs.declared.comp.Comp.{Comp}
use Rattle.casa_filing.specs.declared.regulation.Measure.{Measure}
use Rattle.casa_filing.specs.declared.regulation.Regulation.{Regulation}
use Rattle.casa_flight.specs.declared.row.Row.{Row}
use Rattle.casa_flight.specs.declared.state.State.{State}
use Rattle.casa_filing.specs.Text.{Text, same_text, at_name}
use Rattle.casa_filing.specs.FlightPlan.{FlightPlan}
use Rattle.casa_filing.specs.Subject.{regulation}
use Rattle.casa_flight.specs.State.{row_of, catalogue, ungoverned}
use Rattle.casa_flight.specs.Entry.{situation, row_after_entry, reenter, enter_all}
use Rattle.casa_flight.specs.Good.{AreInOrder}
use Rattle.casa_filing.proofs.Entries.{named, all-each, sorted-put}
use Rattle.casa_laws.proofs.EnterAll.{entered_plan}
use Rattle.casa_footprint.specs.Footprint.{is_subject, is_list_of}
use Rattle.casa_plan_spec.specs.Sight.{Sight, Written, row_with}
use Rattle.casa_plan_spec.specs.Write.{stances}
use Rattle.casa_plan_spec.specs.Enter.{situation_with, with_entry, with_reentry, with_entries}
use Rattle.casa_plan_spec.proofs.Board.{Shows, row_put}
use Rattle.casa_plan_spec.proofs.Naming.{named_put, or_none}
use Rattle.casa_plan_spec.proofs.Stances.{once-stances, lists_named}
use Rattle.casa_plan_spec.proofs.Written.{stances_named}
use Rattle.casa_plan_spec.proofs.Entered.{reentry_is, reentry_shown, reentry_sorted, reentry_clock, reentry_regs}

-- whether a flight is among these, and whether a list is one of theirs
abbrev pub enters_among : Text → List Comp → Bool
enters_among q cs = list_any (λ (c : Comp). same_text c.key q) cs

abbrev pub lists_among : State → Text → List Comp → Bool
lists_among s q cs = list_any (λ (c : Comp). is_list_of s c.key q) cs

-- flights that are there enter one by one: the change shows the state in which they have entered, and it has their rows and
-- their lists
abbrev pub AreThere : State → List Comp → Type 0
AreThere s cs = AllByRecursion (λ (c : Comp). is_some (row_of s c.key) ≡ true) cs

pub record Entries (clock : ℕ) (rs : List Regulation) (v : Sight) (w : Written) (s : State) (cs : List Comp) : Type 0 where
  pub shows : Shows v (with_entries clock rs v w cs) (enter_all s cs)
  pub clock_kept : (with_entries clock rs v w cs).clock ≡ w.clock
  pub catalogue_kept : (with_entries clock rs v w cs).catalogue ≡ w.catalogue
  pub rows : (q : Text) → is_some (at_name (with_entries clock rs v w cs).rows q) ≡ (is_some (at_name w.rows q) || enters_among q cs)
  pub lists : (q : Text) → is_some (at_name (with_entries clock rs v w cs).lists q) ≡ (is_some (at_name w.lists q) || lists_among s q cs)

-- a flight keeps its plan as another enters or it does
row_stays : (s : State) (key other : Text) (row : Row) (q : Text) → row_of s key ≡ Some row → is_list_of (reenter s key (Some row)) other q ≡ is_list_of s other q
row_stays s key other row q found =
    ap (λ (o : Option Row). option_map_or (λ (r : Row). is_subject s r.plan q) o false) (row_put s key new other) ∙
    (elim (same_text key other) as (λ b. same_text key other ≡ b → option_map_or (λ (r : Row). is_subject s r.plan q) (if b then Some new else row_of s other) false ≡ is_list_of s other q) [
      | true ↦ λ t.
          ap (λ (p : FlightPlan). is_subject s p q) (entered_plan (situation s) key (ungoverned row))
          ∙ sym (ap (λ (o : Option Row). option_map_or (λ (r : Row). is_subject s r.plan q) o false) (subst (λ k. row_of s k ≡ Some row) (named key other t) found))
      | false ↦ λ t. refl
    ] refl)
  where
    new : Row
    new = row_after_entry (situation s) key (ungoverned row)

there_stays : (s : State) (key other : Text) → is_some (row_of s other) ≡ true → is_some (row_of (reenter s key (row_of s key)) other) ≡ true
there_stays s key other h = by (row_of s key)
  where
    either : (row : Row) (b : Bool) → is_some (if b then Some row else row_of s other) ≡ true
    either row true = refl
    either row false = h

    by : (o : Option Row) → is_some (row_of (reenter s key o) other) ≡ true
    by None = h
    by (Some row) = ap is_some (row_put s key (row_after_entry (situation s) key (ungoverned row)) other) ∙ either (row_after_entry (situation s) key (ungoverned row)) (same_text key other)

among_stay : (s : State) (key : Text) (row : Row) (q : Text) (ds : List Comp) → row_of s key ≡ Some row → lists_among (reenter s key (Some row)) q ds ≡ lists_among s q ds
among_stay s key row q [] found = refl
among_stay s key row q (d ∷ ds) found = λ i. row_stays s key d.key row q found i || among_stay s key row q ds found i

-- a flight, and then those after it
entries_from : (clock : ℕ) (rs : List Regulation) (v : Sight) (w : Written) (s : State) (c : Comp) (cs : List Comp) → s.clock ≡ clock → catalogue s ≡ rs
    → Shows v w s → AreInOrder s.regs → is_some (row_of s c.key) ≡ true
    → Entries clock rs v (with_reentry clock rs v w c.key (row_with v w c.key)) (reenter s c.key (row_of s c.key)) cs → Entries clock rs v w s (c ∷ cs)
entries_from clock rs v w s c cs at is shows ordered there rest = by (row_of s c.key) refl there
  where
    key : Text
    key = c.key

    next : Written
    next = with_reentry clock rs v w key (row_with v w key)

    twice : (b : Bool) → (b || b) ≡ b
    twice true = refl
    twice false = refl

    by : (o : Option Row) → row_of s key ≡ o → is_some o ≡ true → Entries clock rs v w s (c ∷ cs)
    by None found h = cc
    by (Some row) found h =
        let free : Row = ungoverned row in
        let new : Row = row_after_entry (situation s) key free in
        let here : reenter s key (row_of s key) ≡ reenter s key (Some row) = ap (reenter s key) found in
        let same : next ≡ with_entry clock rs v w key free new = (λ i. with_reentry (sym at i) (sym is i) v w key (row_with v w key)) ∙ reentry_is v w s key row shows found ∙ (λ i. with_entry (at i) (is i) v w key free new) in
        let lists_now : (q : Text) → is_some (at_name next.lists q) ≡ (is_some (at_name w.lists q) || is_list_of s key q) =
        λ q. ap (λ (x : Written). is_some (at_name x.lists q)) same
        ∙ ap (λ (x : List Regulation). is_some (at_name (with_entry clock x v w key free new).lists q)) (sym is)
        ∙ lists_named v key w.lists (stances (catalogue s) (Some free) (Some new)) q (once-stances s (Some free) (Some new) ordered)
        ∙ ap (λ b. is_some (at_name w.lists q) || b) (stances_named s (Some free) (Some new) q ordered
        ∙ ap (λ (p : FlightPlan). is_subject s row.plan q || is_subject s p q) (entered_plan (situation s) key free) ∙ twice (is_subject s row.plan q)
        ∙ sym (ap (λ (o : Option Row). option_map_or (λ (r : Row). is_subject s r.plan q) o false) found)) in
        record {
          shows = rest.shows;
          clock_kept = rest.clock_kept ∙ ap (λ (x : Written). x.clock) same;
          catalogue_kept = rest.catalogue_kept ∙ ap (λ (x : Written). x.catalogue) same;
          rows = λ q. rest.rows q ∙ ap (λ (x : Written). is_some (at_name x.rows q) || enters_among q cs) same
              ∙ ap (λ b. b || enters_among q cs) (named_put q key (Some new) w.rows) ∙ or_assoc (is_some (at_name w.rows q)) (same_text key q) (enters_among q cs);
          lists = λ q. rest.lists q ∙ (λ i. lists_now q i || (ap (λ (t : State). lists_among t q cs) here ∙ among_stay s key row q cs found) i)
              ∙ or_assoc (is_some (at_name w.lists q)) (is_list_of s key q) (lists_among s q cs);
        }

pub entries : (clock : ℕ) (rs : List Regulation) (v : Sight) (w : Written) (s : State) (cs : List Comp) → s.clock ≡ clock → catalogue s ≡ rs
    → Shows v w s → AreInOrder s.rows → AreInOrder s.regs → AreThere s cs → Entries clock rs v w s cs
entries clock rs v w s [] at is shows sorted ordered there = record { shows = shows; clock_kept = refl; catalogue_kept = refl; rows = λ q. or_none _; lists = λ q. or_none _ }
entries clock rs v w s (c ∷ cs) at is shows sorted ordered there =
    let n : State = reenter s c.key (row_of s c.key) in
    let next : Written = with_reentry clock rs v w c.key (row_with v w c.key) in
    let then_shows : Shows v next n = subst (λ x. Shows v x n) (λ i. with_reentry (at i) (is i) v w c.key (row_with v w c.key)) (reentry_shown v w s c.key shows sorted ordered) in
    let regs_now : n.regs ≡ s.regs = reentry_regs s c.key in
    entries_from clock rs v w s c cs at is shows ordered there.0
    (entries clock rs v next n cs (reentry_clock s c.key ∙ at) (ap (λ q. map (λ (e : Text × Measure). regulation e.0 e.1) q) regs_now ∙ is) then_shows (reentry_sorted s c.key sorted)
    (subst AreInOrder (sym regs_now) ordered)
    (all-each (λ (d : Comp). is_some (row_of s d.key) ≡ true) (λ (d : Comp). is_some (row_of n d.key) ≡ true) (λ d h. there_stays s c.key d.key h) cs there.1))

-- the rows of the change come in the order of their keys
pub entries_ordered : (clock : ℕ) (rs : List Regulation) (v : Sight) (w : Written) (cs : List Comp) → AreInOrder w.rows → AreInOrder (with_entries clock rs v w cs).rows
entries_ordered clock rs v w [] sorted = sorted
entries_ordered clock rs v w (c ∷ cs) sorted = entries_ordered clock rs v (with_reentry clock rs v w c.key (row_with v w c.key)) cs (by (row_with v w c.key))
  where
    by : (o : Option Row) → AreInOrder (with_reentry clock rs v w c.key o).rows
    by None = sorted
    by (Some row) = sorted-put c.key (Some (row_after_entry (situation_with clock rs v w) c.key (ungoverned row))) w.rows sorted

-- a catalogue that is written afterwards might have been written before
pub entries_catalogue : (clock : ℕ) (rs : List Regulation) (v : Sight) (w : Written) (c : Option (List Regulation)) (cs : List Comp)
    → with_entries clock rs v (record w { catalogue = c }) cs ≡ record (with_entries clock rs v w cs) { catalogue = c }
entries_catalogue clock rs v w c [] = refl
entries_catalogue clock rs v w c (d ∷ cs) =
    ap (λ (x : Written). with_entries clock rs v x cs) (by (row_with v w d.key)) ∙ entries_catalogue clock rs v (with_reentry clock rs v w d.key (row_with v w d.key)) c cs
  where
    by : (o : Option Row) → with_reentry clock rs v (record w { catalogue = c }) d.key o ≡ record (with_reentry clock rs v w d.key o) { catalogue = c }
    by None = refl
    by (Some row) = refl
