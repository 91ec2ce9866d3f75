-- the flights that a tick issues move nobody: it is as if they became issued one after the other
use Rattle.std.proofs.Common.{◌≡◌, ◌↔◌, ℕ, ◌+◌, ◌-◌, ◌≤◌, List, [], ◌∷◌, Bool, true, false, cond, ◌&&◌, ◌||◌, refl, sym, ap, subst, ◌∙◌, Option, None, Some, nat_lt}
use Rattle.std.specs.Option.{option_map, option_map_or, option_and_then}
use Rattle.std.specs.Ordering.{is_eq}
use Rattle.std.specs.List.{Contains, filter, list_any, slice_index_or}
use Rattle.std.specs.List.Sorted.{IsStrictlySortedBy}
use Rattle.std.specs.Map.{keys_of}
use Rattle.std.proofs.Math.Bool.{and-true, and-false}
use Rattle.std.proofs.lemmas.Bool.{or_left, or_right, le-ltb}
use Rattle.std.proofs.lemmas.Cmp.{nat_list_eq_equiv}
use Rattle.std.proofs.lemmas.List.Folds.{Any-from_list_any, list_any-from_Any}
use Rattle.casa_grid.specs.Profile.{IsProfile, end_of}
use Rattle.casa_grid.specs.Slots.{slots}
use Rattle.casa_grid.specs.TimeOver.{cto}
use Rattle.casa_flight.specs.declared.call.Call.TheVariants.{Tick}
use Rattle.casa_filing.specs.declared.regulation.Measure.{Measure}
use Rattle.casa_flight.specs.declared.row.Row.{Row}
use Rattle.casa_flight.specs.declared.row.Stance.{Stance}
use Rattle.casa_flight.specs.declared.row.Stance.TheVariants.{Competing, Issued, Forced}
use Rattle.casa_flight.specs.declared.state.State.{State}
use Rattle.casa_filing.specs.Text.{Text, same_text, at_name}
use Rattle.casa_filing.specs.FlightPlan.{etot}
use Rattle.casa_filing.specs.Subject.{regulation, subject, is_due}
use Rattle.casa_flight.specs.State.{row_of, measure_of, is_governed_by}
use Rattle.casa_flight.specs.Listing.{Listing, listing, list_of, stance, stance_in, stance_of, place_of, cto_as, cto_of, eto_as, delay_in, governing_list, ctot_of}
use Rattle.casa_flight.specs.Entry.{is_to_issue, issued_in, issue_if, issue_due}
use Rattle.casa_flight.specs.Steps.{tick, after, next}
use Rattle.casa_flight.specs.Good.{AreInOrder}
use Rattle.casa_flight.specs.Messages.{Passes}
use Rattle.casa_flight.specs.IssuedTimes.{issued_as, with_issued, issue_in_turn}
use Rattle.casa_filing.proofs.Entries.{text_cmp, same_name, named, apart, sorted-put, at-put_same, at-put_other, at-map, keys-map}
use Rattle.casa_laws.proofs.Kept.{at-kept, same_entries}
use Rattle.casa_laws.proofs.MovesNobody.{with_issue_at, place_issued}
use Rattle.casa_laws.proofs.Planned.{list_sorted}
use Rattle.casa_laws.proofs.ChangeMessages.{governed_name}
use Rattle.casa_laws.proofs.RegMessages.{to_issue_parts, issued_at}

-- how a flight that stood so stands now, whether it is due or not
abbrev now_as : Listing → Bool → Text → Stance → Stance
now_as l due key (Competing eto) = cond due (Issued eto (cto_as l key (Competing eto))) (Competing eto)
now_as l due key (Issued eto cto) = Issued eto cto
now_as l due key (Forced eto) = Forced eto

-- the second list is the first with the competitors that are due issued where they are, and nobody else moved
record Issues (l g : Listing) (due : Text → Bool) : Type 0 where
  profile : g.profile ≡ l.profile
  sorted : AreInOrder g.flights
  stands : (q : Text) → stance_of g q ≡ option_map (now_as l (due q) q) (stance_of l q)
  stays : (q : Text) → stance_of g q ≡ stance_of l q → place_of g q ≡ place_of l q

-- who does not compete, or is not due, stands as before
as_before : (l : Listing) (due : Bool) (q : Text) (w : Option Stance) → ((eto : ℕ) → due ≡ true → w ≡ Some (Competing eto) → ⊥) → option_map (now_as l due q) w ≡ w
as_before l due q None h = refl
as_before l due q (Some (Issued eto cto)) h = refl
as_before l due q (Some (Forced eto)) h = refl
as_before l false q (Some (Competing eto)) h = refl
as_before l true q (Some (Competing eto)) h = absurd (h eto refl refl)

issues_none : (l : Listing) (due : Text → Bool) → AreInOrder l.flights → ((q : Text) (eto : ℕ) → due q ≡ true → stance_of l q ≡ Some (Competing eto) → ⊥) → Issues l l due
issues_none l due sorted none = record {
  profile = refl;
  sorted = sorted;
  stands = λ q. sym (as_before l (due q) q (stance_of l q) (λ eto. none q eto));
  stays = λ q h. refl;
}

-- one flight is issued
issues_one : (l : Listing) (key : Text) → IsProfile l.profile → AreInOrder l.flights → Issues l (with_issued l key) (λ q. same_text key q)
issues_one l key valid sorted = by (stance_of l key) refl
  where
    idle : (w : Option Stance) → stance_of l key ≡ w → ((eto : ℕ) → w ≡ Some (Competing eto) → ⊥) → Issues l l (λ q. same_text key q)
    idle w is not = issues_none l (λ q. same_text key q) sorted (λ q eto same competes. not eto (sym is ∙ ap (stance_of l) (named key q same) ∙ competes))

    by : (w : Option Stance) → stance_of l key ≡ w → Issues l (option_map_or (issued_as l key) w l) (λ q. same_text key q)
    by None is = idle None is (λ eto h. cc)
    by (Some (Issued eto t)) is = idle (Some (Issued eto t)) is (λ e h. cc)
    by (Some (Forced eto)) is = idle (Some (Forced eto)) is (λ e h. cc)
    by (Some (Competing eto)) is =
        let t : ℕ = cto_as l key (Competing eto) in
        let g : Listing = with_issue_at l key eto t in
        let its : stance_of g key ≡ Some (Issued eto t) = at-put_same key (Issued eto t) l.flights in
        let own : stance_of g key ≡ option_map (now_as l true key) (stance_of l key) = its ∙ sym (ap (option_map (now_as l true key)) is) in
        record {
          profile = refl;
          sorted = sorted-put key (Issued eto t) l.flights sorted;
          stands = λ q. elim (same_text key q) as (λ b. same_text key q ≡ b → stance_of g q ≡ option_map (now_as l b q) (stance_of l q)) [
            | true ↦ λ same. subst (λ (k : Text). stance_of g k ≡ option_map (now_as l true k) (stance_of l k)) (named key q same) own
            | false ↦ λ other. at-put_other q key (Issued eto t) l.flights (apart key q other) ∙ sym (as_before l false q (stance_of l q) (λ e due h. cc))
          ] refl;
          stays = λ q same. place_issued l key q eto t valid sorted is (ap (option_map (cto_as l key)) is)
              (λ own_key. let both : Some (Issued eto t) ≡ Some (Competing eto) = sym its ∙ ap (stance_of g) (sym own_key) ∙ same ∙ ap (stance_of l) own_key ∙ is in cc);
        }

-- first some flights are issued, and then others
now_as-twice : (l g : Listing) (b c : Bool) (q : Text) (w : Option Stance) → ((eto : ℕ) → b ≡ false → w ≡ Some (Competing eto) → cto_as g q (Competing eto) ≡ cto_as l q (Competing eto))
    → option_map (now_as g c q) (option_map (now_as l b q) w) ≡ option_map (now_as l (b || c) q) w
now_as-twice l g b c q None same = refl
now_as-twice l g b c q (Some (Issued eto cto)) same = refl
now_as-twice l g b c q (Some (Forced eto)) same = refl
now_as-twice l g true c q (Some (Competing eto)) same = refl
now_as-twice l g false c q (Some (Competing eto)) same = ap (λ (t : ℕ). Some (cond c (Issued eto t) (Competing eto))) (same eto refl refl)

-- who stands in the end as at first stood so in between
between : (l g : Listing) (b c : Bool) (q : Text) (w : Option Stance) → option_map (now_as g c q) (option_map (now_as l b q) w) ≡ w → option_map (now_as l b q) w ≡ w
between l g b c q None h = refl
between l g b c q (Some (Issued eto cto)) h = refl
between l g b c q (Some (Forced eto)) h = refl
between l g false c q (Some (Competing eto)) h = refl
between l g true c q (Some (Competing eto)) h = cc

-- a competitor that stands as before has its time over as before
same_time : (l g : Listing) (due : Text → Bool) → Issues l g due → (q : Text) (eto : ℕ) → stance_of g q ≡ stance_of l q → cto_as g q (Competing eto) ≡ cto_as l q (Competing eto)
same_time l g due h q eto same = λ i. cto (slots (h.profile i)) (end_of (h.profile i)) eto (h.stays q same i)

not_due_stands : (l g : Listing) (due : Text → Bool) → Issues l g due → (q : Text) → due q ≡ false → stance_of g q ≡ stance_of l q
not_due_stands l g due h q not = h.stands q ∙ ap (λ b. option_map (now_as l b q) (stance_of l q)) not ∙ as_before l false q (stance_of l q) (λ e due w. cc)

issues_then : (l g h : Listing) (some more : Text → Bool) → Issues l g some → Issues g h more → Issues l h (λ q. some q || more q)
issues_then l g h some more first second = record {
  profile = second.profile ∙ first.profile;
  sorted = second.sorted;
  stands = λ q.
      twice q ∙ now_as-twice l g (some q) (more q) q (stance_of l q) (λ eto not w. same_time l g some first q eto (not_due_stands l g some first q not));
  stays = λ q same.
      let mid : stance_of g q ≡ stance_of l q = first.stands q ∙ between l g (some q) (more q) q (stance_of l q) (sym (twice q) ∙ same) in
      second.stays q (same ∙ sym mid) ∙ first.stays q mid;
}
  where
    twice : (q : Text) → stance_of h q ≡ option_map (now_as g (more q) q) (option_map (now_as l (some q) q) (stance_of l q))
    twice q = second.stands q ∙ ap (option_map (now_as g (more q) q)) (first.stands q)

-- one after the other
abbrev is_in : List Text → Text → Bool
is_in keys q = list_any (λ k. same_text k q) keys

issues_in_turn : (keys : List Text) (l : Listing) → IsProfile l.profile → AreInOrder l.flights → Issues l (issue_in_turn l keys) (is_in keys)
issues_in_turn [] l valid sorted = issues_none l (λ q. false) sorted (λ q eto h w. cc)
issues_in_turn (key ∷ keys) l valid sorted =
    let one : Issues l (with_issued l key) (λ q. same_text key q) = issues_one l key valid sorted in
    issues_then l (with_issued l key) (issue_in_turn (with_issued l key) keys) (λ q. same_text key q) (is_in keys) one
    (issues_in_turn keys (with_issued l key) (subst IsProfile (sym one.profile) valid) one.sorted)

-- at a tick the due flights of a list become issued, and the others stand as before
abbrev is_due_at : State → ℕ → Text → Bool
is_due_at m at q = option_map_or (is_to_issue at) (row_of m q) false

ticked_row : (m : State) (at : ℕ) (id : Text) (measure : Measure) (q : Text) (row : Row) (b : Bool) → AreInOrder m.rows → measure_of m id ≡ Some measure → row_of m q ≡ Some row → is_to_issue at row ≡ b
    → stance_in id measure (issue_if b (record m { clock = at }) q row) ≡ option_map (now_as (listing m.rows id measure) b q) (stance_in id measure row)
ticked_row m at id measure q row false sorted opened found due = sym (as_before (listing m.rows id measure) false q (stance_in id measure row) (λ e d w. cc))
ticked_row m at id measure q row true sorted opened found due = by (is_governed_by id row) (subject row.plan (regulation id measure)) refl refl
  where
    t : State
    t = record m { clock = at }

    l : Listing
    l = listing m.rows id measure

    waits : row.issued ≡ None
    waits = to_issue_parts row.governing row.issued (is_due at row.plan) due

    by : (its : Bool) (o : Option ℕ) → is_governed_by id row ≡ its → subject row.plan (regulation id measure) ≡ o
        → option_map (stance its (issued_in t q row).issued) o ≡ option_map (now_as l true q) (option_map (stance its row.issued) o)
    by its None governs over = refl
    by false (Some eto) governs over = refl
    by true (Some eto) governs over =
        ap (λ (w : Option ℕ). Some (stance true w eto)) (issued_at t q id row measure eto sorted found (governed_name id row.governing governs) waits opened over)
        ∙ sym (ap (λ (w : Option ℕ). option_map (now_as l true q) (Some (stance true w eto))) waits)

ticked_sorted : (m : State) (at : ℕ) → AreInOrder m.rows → AreInOrder (issue_due (record m { clock = at })).rows
ticked_sorted m at sorted =
    let f : Text × Row → Row = λ e. issue_if (is_to_issue at e.1) (record m { clock = at }) e.0 e.1 in
    subst (IsStrictlySortedBy text_cmp) (sym (keys-map f m.rows)) sorted

ticked_stance : (m : State) (at : ℕ) (id : Text) (measure : Measure) (q : Text) → AreInOrder m.rows → measure_of m id ≡ Some measure
    → stance_of (listing (issue_due (record m { clock = at })).rows id measure) q ≡ option_map (now_as (listing m.rows id measure) (is_due_at m at q) q) (stance_of (listing m.rows id measure) q)
ticked_stance m at id measure q sorted opened =
    at-kept (stance_in id measure) q n.rows (ticked_sorted m at sorted)
    ∙ ap (option_and_then (stance_in id measure)) (at-map new q m.rows)
    ∙ by (row_of m q) refl
    ∙ sym (ap (option_map (now_as l (is_due_at m at q) q)) (at-kept (stance_in id measure) q m.rows sorted))
  where
    n : State
    n = issue_due (record m { clock = at })

    l : Listing
    l = listing m.rows id measure

    new : Text → Row → Row
    new k r = issue_if (is_to_issue at r) (record m { clock = at }) k r

    by : (w : Option Row) → row_of m q ≡ w → option_and_then (stance_in id measure) (option_map (new q) w) ≡ option_map (now_as l (option_map_or (is_to_issue at) w false) q) (option_and_then (stance_in id measure) w)
    by None found = refl
    by (Some row) found = ticked_row m at id measure q row (is_to_issue at row) sorted opened found refl

-- lists of one profile in which each flight stands alike are the same
same_listing : (g h : Listing) → g.profile ≡ h.profile → AreInOrder g.flights → AreInOrder h.flights → ((q : Text) → stance_of g q ≡ stance_of h q) → g ≡ h
same_listing g h profiles first second stands =
    let flights : g.flights ≡ h.flights = same_entries g.flights h.flights first second stands in
    λ i. record { profile = profiles i; flights = flights i }

ticked_in_turn : (m : State) (at : ℕ) (id : Text) (measure : Measure) (keys : List Text) → AreInOrder m.rows → IsProfile measure.profile → measure_of m id ≡ Some measure → ((q : Text) → is_in keys q ≡ is_due_at m at q)
    → listing (issue_due (record m { clock = at })).rows id measure ≡ issue_in_turn (listing m.rows id measure) keys
ticked_in_turn m at id measure keys sorted valid opened who =
    let n : State = issue_due (record m { clock = at }) in
    let l : Listing = listing m.rows id measure in
    let turned : Issues l (issue_in_turn l keys) (is_in keys) = issues_in_turn keys l valid (list_sorted m id l sorted (ap (option_map (listing m.rows id)) opened)) in
    same_listing (listing n.rows id measure) (issue_in_turn l keys) (sym turned.profile)
    (list_sorted n id (listing n.rows id measure) (ticked_sorted m at sorted) (ap (option_map (listing n.rows id)) opened)) turned.sorted
    (λ q. ticked_stance m at id measure q sorted opened ∙ ap (λ b. option_map (now_as l b q) (stance_of l q)) (sym (who q)) ∙ sym (turned.stands q))

-- the keys that pass a test
is_in-first : (p : Text → Bool) (q k : Text) (ks : List Text) (b : Bool) → p q ≡ b → same_text k q ≡ true → is_in (filter p ks) q ≡ (p q && is_in ks q) → is_in (cond b (k ∷ filter p ks) (filter p ks)) q ≡ b
is_in-first p q k ks true passes same rest = ap (λ s. s || is_in (filter p ks) q) same
is_in-first p q k ks false passes same rest = rest ∙ ap (λ b. b && is_in ks q) passes

is_in-later : (p : Text → Bool) (q k : Text) (ks : List Text) (b : Bool) → same_text k q ≡ false → is_in (filter p ks) q ≡ (p q && is_in ks q) → is_in (cond b (k ∷ filter p ks) (filter p ks)) q ≡ (p q && is_in ks q)
is_in-later p q k ks true other rest = ap (λ s. s || is_in (filter p ks) q) other ∙ rest
is_in-later p q k ks false other rest = rest

is_in-filter : (p : Text → Bool) (q : Text) (ks : List Text) → is_in (filter p ks) q ≡ (p q && is_in ks q)
is_in-filter p q [] = sym (and-false (p q))
is_in-filter p q (k ∷ ks) =
    let rest : is_in (filter p ks) q ≡ (p q && is_in ks q) = is_in-filter p q ks in
    elim (same_text k q) as (λ s. same_text k q ≡ s → is_in (cond (p k) (k ∷ filter p ks) (filter p ks)) q ≡ (p q && (s || is_in ks q))) [
      | true ↦ λ same. ap (λ b. is_in (cond b (k ∷ filter p ks) (filter p ks)) q) (ap p (named k q same)) ∙ is_in-first p q k ks (p q) refl same rest ∙ sym (and-true (p q))
      | false ↦ λ other. is_in-later p q k ks (p k) other rest
    ] refl

found_in : (es : List (Text × Row)) (q : Text) (row : Row) → at_name es q ≡ Some row → is_in (keys_of es) q ≡ true
found_in [] q row found = cc
found_in (e ∷ es) q row found =
    elim (is_eq (text_cmp q e.0)) as (λ b. is_eq (text_cmp q e.0) ≡ b → cond b (Some e.1) (at_name es q) ≡ Some row → (same_text e.0 q || is_in (keys_of es) q) ≡ true) [
      | true ↦ λ t f. or_left _ _ (subst (λ (k : Text). same_text k q ≡ true) (same_name q e.0 t) (nat_list_eq_equiv.refl q))
      | false ↦ λ t f. or_right _ _ (found_in es q row f)
    ] refl found

-- the keys of the flights that are to be issued
abbrev due_keys : State → ℕ → List Text
due_keys m at = filter (is_due_at m at) (keys_of m.rows)

in_due_keys : (m : State) (at : ℕ) (q : Text) → is_in (due_keys m at) q ≡ is_due_at m at q
in_due_keys m at q = is_in-filter (is_due_at m at) q (keys_of m.rows) ∙ by (row_of m q) refl
  where
    by : (w : Option Row) → row_of m q ≡ w → (option_map_or (is_to_issue at) w false && is_in (keys_of m.rows) q) ≡ option_map_or (is_to_issue at) w false
    by None found = refl
    by (Some row) found = ap (λ b. is_to_issue at row && b) (found_in m.rows q row found) ∙ and-true (is_to_issue at row)

tick_issues : (m : State) (at : ℕ) (id : Text) (measure : Measure) → AreInOrder m.rows → IsProfile measure.profile → measure_of m id ≡ Some measure
    → Issues (listing m.rows id measure) (listing (issue_due (record m { clock = at })).rows id measure) (is_in (due_keys m at))
tick_issues m at id measure sorted valid opened =
    let l : Listing = listing m.rows id measure in
    subst (λ (g : Listing). Issues l g (is_in (due_keys m at)))
    (sym (ticked_in_turn m at id measure (due_keys m at) sorted valid opened (in_due_keys m at)))
    (issues_in_turn (due_keys m at) l valid (list_sorted m id l sorted (ap (option_map (listing m.rows id)) opened)))

-- the lists of a regulation before and after a tick, which may be refused
record IsListBoth (m n : State) (id : Text) (old new : Listing) : Type 0 where
  measure : Measure
  opened : measure_of m id ≡ Some measure
  before : listing m.rows id measure ≡ old
  after : listing n.rows id measure ≡ new

list_both : (m n : State) (id : Text) (old new : Listing) → n.regs ≡ m.regs → list_of m id ≡ Some old → list_of n id ≡ Some new → IsListBoth m n id old new
list_both m n id old new regs was is = by (measure_of m id) refl was (ap (λ (es : List (Text × Measure)). option_map (listing n.rows id) (at_name es id)) (sym regs) ∙ is)
  where
    by : (w : Option Measure) → measure_of m id ≡ w → option_map (listing m.rows id) w ≡ Some old → option_map (listing n.rows id) w ≡ Some new → IsListBoth m n id old new
    by None opened a b = cc
    by (Some measure) opened a b =
        let first : listing m.rows id measure ≡ old = cc in
        let second : listing n.rows id measure ≡ new = cc in
        record { measure = measure; opened = opened; before = first; after = second }

tick_lists : (m : State) (at : ℕ) (id : Text) (old new : Listing) (back : Bool) → AreInOrder m.rows → IsProfile old.profile → list_of m id ≡ Some old → list_of (after m (tick m at back)) id ≡ Some new
    → (due : Text → Bool) × Issues old new due
tick_lists m at id old new true sorted valid was is =
    let both : Some old ≡ Some new = sym was ∙ is in
    let same : old ≡ new = cc in
    ((λ q. false), subst (λ (g : Listing). Issues old g (λ q. false)) same (issues_none old (λ q. false) (list_sorted m id old sorted was) (λ q eto h w. cc)))
tick_lists m at id old new false sorted valid was is =
    let n : State = issue_due (record m { clock = at }) in
    let k : IsListBoth m n id old new = list_both m n id old new refl was is in
    let there : Issues (listing m.rows id k.measure) (listing n.rows id k.measure) (is_in (due_keys m at)) =
    tick_issues m at id k.measure sorted (subst (λ (l : Listing). IsProfile l.profile) (sym k.before) valid) k.opened in
    (is_in (due_keys m at), subst (λ (g : Listing). Issues old g (is_in (due_keys m at))) k.after (subst (λ (l : Listing). Issues l (listing n.rows id k.measure) (is_in (due_keys m at))) k.before there))

pub tick_places : (m : State) (at : ℕ) (id key : Text) (old new : Listing) → AreInOrder m.rows → IsProfile old.profile → list_of m id ≡ Some old → list_of (next m (Tick at)) id ≡ Some new → stance_of new key ≡ stance_of old key → place_of new key ≡ place_of old key
tick_places m at id key old new sorted valid was is = (tick_lists m at id old new (nat_lt at m.clock) sorted valid was is).1.stays key

-- each flight keeps its times
times_stay : {X : Type 0} (F : ℕ → ℕ → X) (d : X) (l g : Listing) (due : Text → Bool) → Issues l g due → (q : Text) → option_map_or (λ (s : Stance). F (cto_as g q s) (eto_as s)) (stance_of g q) d ≡ option_map_or (λ (s : Stance). F (cto_as l q s) (eto_as s)) (stance_of l q) d
times_stay {X} F d l g due h q =
    ap (λ (w : Option Stance). option_map_or (λ (s : Stance). F (cto_as g q s) (eto_as s)) w d) (h.stands q) ∙ by (due q) (stance_of l q) refl
  where
    by : (b : Bool) (w : Option Stance) → due q ≡ b → option_map_or (λ (s : Stance). F (cto_as g q s) (eto_as s)) (option_map (now_as l b q) w) d ≡ option_map_or (λ (s : Stance). F (cto_as l q s) (eto_as s)) w d
    by b None is = refl
    by b (Some (Issued eto cto)) is = refl
    by b (Some (Forced eto)) is = refl
    by true (Some (Competing eto)) is = refl
    by false (Some (Competing eto)) is = ap (λ (t : ℕ). F t eto) (same_time l g due h q eto (not_due_stands l g due h q is))

as_or : {X Y : Type 0} (f : X → Y) (w : Option X) → option_map f w ≡ option_map_or (λ (x : X). Some (f x)) w None
as_or f None = refl
as_or f (Some x) = refl

pub tick_times : (m : State) (at : ℕ) (id key : Text) (old new : Listing) → AreInOrder m.rows → IsProfile old.profile → list_of m id ≡ Some old → list_of (next m (Tick at)) id ≡ Some new → cto_of new key ≡ cto_of old key
tick_times m at id key old new sorted valid was is =
    let h = tick_lists m at id old new (nat_lt at m.clock) sorted valid was is in
    as_or (cto_as new key) (stance_of new key) ∙ times_stay (λ (t e : ℕ). Some t) None old new h.0 h.1 key ∙ sym (as_or (cto_as old key) (stance_of old key))

-- one after the other, in any order
contains_in : (keys : List Text) (q : Text) → Contains keys q → is_in keys q ≡ true
contains_in keys q h = list_any-from_Any (λ (k : Text). same_text k q) keys (h.0, q, h.1, h.2, nat_list_eq_equiv.refl q)

in_contains : (keys : List Text) (q : Text) → is_in keys q ≡ true → Contains keys q
in_contains keys q h =
    let k = Any-from_list_any (λ (k : Text). same_text k q) keys h in
    (k.0, k.2, subst (λ (x : Text). slice_index_or keys k.0 x ≡ x) (named k.1 q k.4) k.3)

as_true : (a b : Bool) → (a ≡ true → b ≡ true) → (b ≡ true → a ≡ true) → a ≡ b
as_true true true f g = refl
as_true false false f g = refl
as_true true false f g = sym (f refl)
as_true false true f g = g refl

pub tick_in_turn : (m : State) (at : ℕ) (id : Text) (old : Listing) (keys : List Text) → AreInOrder m.rows → IsProfile old.profile → m.clock ≤ at → list_of m id ≡ Some old → ((key : Text) → Contains keys key ↔ Passes m key (is_to_issue at))
    → list_of (next m (Tick at)) id ≡ Some (issue_in_turn old keys)
tick_in_turn m at id old keys sorted valid on was who =
    ap (λ b. list_of (after m (tick m at b)) id) (le-ltb at m.clock on) ∙ by (measure_of m id) refl was
  where
    by : (w : Option Measure) → measure_of m id ≡ w → option_map (listing m.rows id) w ≡ Some old → option_map (listing (issue_due (record m { clock = at })).rows id) (measure_of m id) ≡ Some (issue_in_turn old keys)
    by None opened a = cc
    by (Some measure) opened a =
        let here : listing m.rows id measure ≡ old = cc in
        ap (option_map (listing (issue_due (record m { clock = at })).rows id)) opened
        ∙ ap (λ (g : Listing). Some g)
        (ticked_in_turn m at id measure keys sorted (subst (λ (l : Listing). IsProfile l.profile) (sym here) valid) opened
        (λ q. as_true (is_in keys q) (is_due_at m at q) (λ t. (who q).0 (in_contains keys q t)) (λ t. contains_in keys q ((who q).1 t))))
        ∙ ap (λ (l : Listing). Some (issue_in_turn l keys)) here

-- each flight keeps its take-off time
abbrev delay_at : State → Text → Option Text → ℕ
delay_at n key g = option_map_or (λ (l : Listing). delay_in l key) (option_and_then (list_of n) g) 0

ticked_delay : (m : State) (at : ℕ) (key : Text) (g : Option Text) → AreInOrder m.rows → ((l : Listing) → option_and_then (list_of m) g ≡ Some l → IsProfile l.profile)
    → delay_at (issue_due (record m { clock = at })) key g ≡ delay_at m key g
ticked_delay m at key None sorted valid = refl
ticked_delay m at key (Some id) sorted valid = by (measure_of m id) refl
  where
    by : (w : Option Measure) → measure_of m id ≡ w → option_map_or (λ (l : Listing). delay_in l key) (option_map (listing (issue_due (record m { clock = at })).rows id) (measure_of m id)) 0 ≡ option_map_or (λ (l : Listing). delay_in l key) (option_map (listing m.rows id) (measure_of m id)) 0
    by None opened =
        ap (λ (w : Option Measure). option_map_or (λ (l : Listing). delay_in l key) (option_map (listing (issue_due (record m { clock = at })).rows id) w) 0) opened
        ∙ sym (ap (λ (w : Option Measure). option_map_or (λ (l : Listing). delay_in l key) (option_map (listing m.rows id) w) 0) opened)
    by (Some measure) opened =
        let good : IsProfile measure.profile = valid (listing m.rows id measure) (ap (option_map (listing m.rows id)) opened) in
        ap (λ (w : Option Measure). option_map_or (λ (l : Listing). delay_in l key) (option_map (listing (issue_due (record m { clock = at })).rows id) w) 0) opened
        ∙ times_stay (λ (t e : ℕ). t - e) 0 (listing m.rows id measure) (listing (issue_due (record m { clock = at })).rows id measure) (is_in (due_keys m at)) (tick_issues m at id measure sorted good opened) key
        ∙ sym (ap (λ (w : Option Measure). option_map_or (λ (l : Listing). delay_in l key) (option_map (listing m.rows id) w) 0) opened)

issued_ctot : (m : State) (at : ℕ) (key : Text) (row : Row) (b : Bool) → AreInOrder m.rows → ((l : Listing) → governing_list m row ≡ Some l → IsProfile l.profile)
    → ctot_of (issue_due (record m { clock = at })) key (issue_if b (record m { clock = at }) key row) ≡ ctot_of m key row
issued_ctot m at key row true sorted valid = ap (λ d. etot row.plan + d) (ticked_delay m at key row.governing sorted valid)
issued_ctot m at key row false sorted valid = ap (λ d. etot row.plan + d) (ticked_delay m at key row.governing sorted valid)

tick_ctot : (m : State) (at : ℕ) (key : Text) (row new : Row) (back : Bool) → AreInOrder m.rows → ((l : Listing) → governing_list m row ≡ Some l → IsProfile l.profile) → row_of m key ≡ Some row → row_of (after m (tick m at back)) key ≡ Some new
    → ctot_of (after m (tick m at back)) key new ≡ ctot_of m key row
tick_ctot m at key row new true sorted valid was is =
    let both : Some row ≡ Some new = sym was ∙ is in
    let same : row ≡ new = cc in
    ap (ctot_of m key) (sym same)
tick_ctot m at key row new false sorted valid was is =
    let t : State = record m { clock = at } in
    let there : Some (issue_if (is_to_issue at row) t key row) ≡ Some new =
    sym (at-map (λ k r. issue_if (is_to_issue at r) t k r) key m.rows ∙ ap (option_map (λ (r : Row). issue_if (is_to_issue at r) t key r)) was) ∙ is in
    let same : issue_if (is_to_issue at row) t key row ≡ new = cc in
    ap (ctot_of (issue_due t) key) (sym same) ∙ issued_ctot m at key row (is_to_issue at row) sorted valid

pub tick_take_off : (m : State) (at : ℕ) (key : Text) (row new : Row) → AreInOrder m.rows → ((l : Listing) → governing_list m row ≡ Some l → IsProfile l.profile) → row_of m key ≡ Some row → row_of (next m (Tick at)) key ≡ Some new
    → ctot_of (next m (Tick at)) key new ≡ ctot_of m key row
tick_take_off m at key row new sorted valid was is = tick_ctot m at key row new (nat_lt at m.clock) sorted valid was is
