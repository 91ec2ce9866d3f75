-- the list of a regulation that opens or ends later, from the flights over it with their rows
use Rattle.std.proofs.Common.{◌≡◌, ℕ, List, [], ◌∷◌, Bool, true, false, cond, refl, sym, ap, ◌∙◌, Option, None, Some, if◌then◌else◌}
use Rattle.std.specs.Ordering.{is_eq}
use Rattle.std.specs.Option.{option_map, option_map_or, option_and_then}
use Rattle.std.specs.List.{AllByRecursion, filter, filter_map, fold, cons_option}
use Rattle.std.specs.List.Sorted.{IsStrictlySortedBy}
use Rattle.casa_flight.specs.declared.comp.Comp.{Comp}
use Rattle.casa_filing.specs.declared.regulation.Regulation.{Regulation}
use Rattle.casa_flight.specs.declared.row.Row.{Row}
use Rattle.casa_flight.specs.declared.row.Stance.{Stance}
use Rattle.casa_filing.specs.Text.{Text, same_text, at_name, put}
use Rattle.casa_filing.specs.Subject.{subject}
use Rattle.casa_flight.specs.State.{is_governed_by}
use Rattle.casa_flight.specs.Listing.{sorted_by, is_before, filter_map_values, stance, stance_over}
use Rattle.casa_flight.specs.Steps.{flights_over}
use Rattle.casa_flight.specs.Good.{AreInOrder}
use Rattle.casa_filing.proofs.Entries.{text_cmp, apart, all_at, at-put_same, at-put_other, sorted-put}
use Rattle.casa_laws.proofs.Kept.{at-kept, sorted-kept, filter_map-one, same_entries}
use Rattle.casa_laws.proofs.InOrder.{all-always}
use Rattle.casa_laws.proofs.GoodRegs.{comp_if}
use Rattle.casa_flight.proofs.Planning.{comps_order}
use Rattle.casa_footprint.proofs.Names.{text_itself}
use Rattle.casa_plan_spec.specs.TakingIn.{stance_by, stances_by}
use Rattle.casa_plan_spec.proofs.Changes.{test_same, at-put_by}
use Rattle.casa_plan_spec.proofs.Newcomers.{filter-in_order}

-- flights put by their keys among others, each as f has it stand
abbrev with_flight : (Comp → Option Stance) → List (Text × Stance) → Comp → List (Text × Stance)
with_flight f es c = option_map_or (λ (s : Stance). put es c.key s) (f c) es

abbrev with_flights : (Comp → Option Stance) → List (Text × Stance) → List Comp → List (Text × Stance)
with_flights f es cs = fold (with_flight f) es cs

-- what is there under a name depends on the flights of that name
flights_named : (f : Comp → Option Stance) (q : Text) (cs : List Comp) (es fs : List (Text × Stance)) → at_name es q ≡ at_name fs q
    → at_name (with_flights f es cs) q ≡ at_name (with_flights f fs (filter (λ (c : Comp). same_text c.key q) cs)) q
flights_named f q [] es fs same = same
flights_named f q (c ∷ cs) es fs same =
    elim (same_text c.key q) as (λ b. same_text c.key q ≡ b →
    at_name (with_flights f (with_flight f es c) cs) q
    ≡ at_name (with_flights f fs (cond b (c ∷ filter (λ (c : Comp). same_text c.key q) cs) (filter (λ (c : Comp). same_text c.key q) cs))) q) [
      | true ↦ λ h. flights_named f q cs (with_flight f es c) (with_flight f fs c) (both (f c))
      | false ↦ λ h. flights_named f q cs (with_flight f es c) fs (past (apart c.key q h) (f c) ∙ same)
    ] refl
  where
    both : (w : Option Stance) → at_name (option_map_or (λ (s : Stance). put es c.key s) w es) q ≡ at_name (option_map_or (λ (s : Stance). put fs c.key s) w fs) q
    both None = same
    both (Some s) = at-put_by q c.key s es ∙ ap (λ (o : Option Stance). if same_text c.key q then Some s else o) same ∙ sym (at-put_by q c.key s fs)

    past : is_eq (text_cmp q c.key) ≡ false → (w : Option Stance) → at_name (option_map_or (λ (s : Stance). put es c.key s) w es) q ≡ at_name es q
    past h None = refl
    past h (Some s) = at-put_other q c.key s es h

flights_sorted : (f : Comp → Option Stance) (cs : List Comp) (es : List (Text × Stance)) → AreInOrder es → AreInOrder (with_flights f es cs)
flights_sorted f [] es h = h
flights_sorted f (c ∷ cs) es h = flights_sorted f cs (with_flight f es c) (by (f c))
  where
    by : (w : Option Stance) → AreInOrder (option_map_or (λ (s : Stance). put es c.key s) w es)
    by None = h
    by (Some s) = sorted-put c.key s es h

-- the flight of this name
abbrev if_named : Text → Comp → Option Comp
if_named q c = if same_text c.key q then Some c else None

filter-filter_map : {X : Type 0} (q : Text) (f : X → Option Comp) (xs : List X) → filter (λ (c : Comp). same_text c.key q) (filter_map f xs) ≡ filter_map (λ (x : X). option_and_then (if_named q) (f x)) xs
filter-filter_map q f [] = refl
filter-filter_map {X} q f (x ∷ xs) = head (f x) ∙ ap (cons_option (option_and_then (if_named q) (f x))) (filter-filter_map q f xs)
  where
    named_or : (c : Comp) (rest : List Comp) (b : Bool) → cond b (c ∷ rest) rest ≡ cons_option (if b then Some c else None) rest
    named_or c rest true = refl
    named_or c rest false = refl

    head : (o : Option Comp) → filter (λ (c : Comp). same_text c.key q) (cons_option o (filter_map f xs)) ≡ cons_option (option_and_then (if_named q) o) (filter (λ (c : Comp). same_text c.key q) (filter_map f xs))
    head None = refl
    head (Some c) = named_or c (filter (λ (c : Comp). same_text c.key q) (filter_map f xs)) (same_text c.key q)

-- the flights over a regulation, by keys and each as it stands by its row, are those of its list
pub each_over : (at : Text → Option Row) (r : Regulation) (rows : List (Text × Row)) → AreInOrder rows → AllByRecursion (λ (e : Text × Row). at e.0 ≡ Some e.1) rows
    → stances_by r.id at (flights_over (λ (row : Row). true) r rows) ≡ filter_map_values (stance_over r) rows
unfolding IsStrictlySortedBy
each_over at r rows sorted found =
    same_entries (with_flights f [] cs) (filter_map_values (stance_over r) rows) (flights_sorted f cs [] tt) (sorted-kept (stance_over r) rows sorted)
    (λ q.
    flights_named f q cs [] [] refl
    ∙ ap (λ (ds : List Comp). at_name (with_flights f [] ds) q)
    (filter-in_order is_before comps_order (λ (c : Comp). same_text c.key q) (filter_map flight rows)
    ∙ ap (sorted_by is_before) (filter-filter_map q flight rows ∙ filter_map-one (named q) q rows sorted (all-always (λ (e : Text × Row). is_eq (text_cmp q e.0) ≡ false → named q e ≡ None) (λ e h. other q e h (subject e.1.plan r)) rows)))
    ∙ by q (at_name rows q) refl ∙ sym (at-kept (stance_over r) q rows sorted))
  where
    f : Comp → Option Stance
    f c = stance_by r.id c.eto (at c.key)

    flight : Text × Row → Option Comp
    flight e = comp_if true (subject e.1.plan r) e.0

    cs : List Comp
    cs = flights_over (λ (row : Row). true) r rows

    named : Text → Text × Row → Option Comp
    named q e = option_and_then (if_named q) (flight e)

    other : (q : Text) (e : Text × Row) → is_eq (text_cmp q e.0) ≡ false → (w : Option ℕ) → option_and_then (if_named q) (comp_if true w e.0) ≡ None
    other q e h None = refl
    other q e h (Some eto) = let c : Comp = record { eto = eto; key = e.0 } in ap (λ b. if b then Some c else None) (sym (test_same e.0 q) ∙ h)

    mine : (q : Text) (row : Row) → at q ≡ Some row → (w : Option ℕ)
        → at_name (with_flights f [] (sorted_by is_before (cons_option (option_and_then (if_named q) (comp_if true w q)) []))) q ≡ option_map (stance (is_governed_by r.id row) row.issued) w
    mine q row h None = refl
    mine q row h (Some eto) =
        let c : Comp = record { eto = eto; key = q } in
        ap (λ b. at_name (with_flights f [] (sorted_by is_before (cons_option (if b then Some c else None) []))) q) (text_itself q)
        ∙ ap (λ (o : Option Row). at_name (option_map_or (λ (s : Stance). put [] q s) (stance_by r.id eto o) []) q) h
        ∙ at-put_same q (stance (is_governed_by r.id row) row.issued eto) []

    by : (q : Text) (o : Option Row) → at_name rows q ≡ o
        → at_name (with_flights f [] (sorted_by is_before (cons_option (option_and_then (λ (row : Row). named q (q, row)) o) []))) q ≡ option_and_then (stance_over r) o
    by q None e = refl
    by q (Some row) e = mine q row (all_at (λ (e : Text × Row). at e.0 ≡ Some e.1) q row rows found e) (subject row.plan r)
