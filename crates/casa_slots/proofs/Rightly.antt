-- the walk gives the places of the definitions
use Rattle.std.proofs.Common.{◌≡◌, ℕ, ◌+◌, ◌-◌, ◌<◌, ◌≤◌, List, [], ◌∷◌, ◌++◌, length, Bool, true, false, not, ◌||◌, ◌==◌, refl, sym, ◌∙◌, ap, subst, arith, zero, suc, ◌⊎◌, inl, inr, cond, Option, None, Some, max, count_by}
use Rattle.std.specs.Option.{option_map_or}
use Rattle.std.specs.List.{range_with_len, find, slice_get, list_any}
use Rattle.std.proofs.lemmas.List.{length-map}
use Rattle.std.proofs.lemmas.List.Folds.{list_any-append}
use Rattle.std.proofs.lemmas.List.Sums.{sum_by-cons}
use Rattle.std.proofs.lemmas.Bool.{cases_lt, cases_eq, and_from, ltb-true, lt-ltb, leb-true, le-leb, both_ways, or_cases, or_left, or_right, eqb-true, eq-eqb, false_from_ne_true}
use Rattle.casa_grid.specs.declared.slot.Place.{Place}
use Rattle.casa_grid.specs.declared.slot.Place.TheVariants.{Slot, Over}
use Rattle.casa_grid.specs.declared.slot.Window.{Window}
use Rattle.casa_grid.specs.Slots.{slots, wanted, is_within}
use Rattle.casa_flight.specs.declared.comp.Comp.{Comp}
use Rattle.casa_flight.specs.declared.comp.Assigned.{Assigned}
use Rattle.casa_flight.specs.Assignment.{Occupancy, is_from, is_blocked, is_open, is_slot, is_taken, IsServed, place_after, place_from, assigned_after}
use Rattle.casa_flight.specs.Listing.{Listing, competitors, occupancy, places}
use Rattle.casa_laws.proofs.Assignment.{served_once, place_served, IsFirstFrom, find_first}
use Rattle.casa_laws.proofs.Rising.{AreFrom, AreRising, open_rises, rising-competitors}
use Rattle.casa_laws.proofs.Issue.{open_parts}
use Rattle.casa_slots.specs.Blocked.{counts, issued_counts}
use Rattle.casa_slots.specs.Walk.{is_clear, place_asked, place_low, low_after, walked}

pub count_by-cons : (p : ℕ → Bool) (t : ℕ) (ts : List ℕ) → count_by p (t ∷ ts) ≡ cond (p t) 1 0 + count_by p ts
count_by-cons p t ts = sum_by-cons (λ u. cond (p u) 1 0) t ts

-- a slot that no issued flight lies in is not blocked
none_counted : (p : ℕ → Bool) (ts : List ℕ) → (count_by p ts == 0) ≡ not (list_any p ts)
none_counted p [] = refl
none_counted p (t ∷ ts) =
    ap (λ n. n == 0) (count_by-cons p t ts)
    ∙ (elim (p t) as (λ b. (cond b 1 0 + count_by p ts == 0) ≡ not (b || list_any p ts)) [
      | true ↦ false_from_ne_true _ (λ h. let none : 1 + count_by p ts ≡ 0 = eqb-true _ _ h in absurd (omega (arith, none)))
      | false ↦ let same : 0 + count_by p ts ≡ count_by p ts = omega arith in ap (λ n. n == 0) same ∙ none_counted p ts
    ])

clear_at : (ws : List Window) (ts : List ℕ) (k : ℕ) → k < length ws → is_clear (counts ws ts) k ≡ not (option_map_or (λ (w : Window). list_any (λ t. is_within t w) ts) (slice_get ws k) false)
clear_at [] ts k lt = absurd (omega (arith, lt))
clear_at (w ∷ ws) ts zero lt = none_counted (λ t. is_within t w) ts
clear_at (w ∷ ws) ts (suc k) lt = clear_at ws ts k (omega (arith, lt))

pub length-counts : (ws : List Window) (ts : List ℕ) → length (counts ws ts) ≡ length ws
length-counts ws ts = length-map ws (λ (w : Window). count_by (λ t. is_within t w) ts)

clear_is : (o : Occupancy) (k : ℕ) → k < length o.slots → is_clear (issued_counts o) k ≡ not (is_blocked o k)
clear_is o k lt = clear_at o.slots o.issued k lt

-- the earlier competitors have slots below `low` alone, and each that is open from this time on
record IsLow (o : Occupancy) (earlier : List Assigned) (low eto : ℕ) : Type 0 where
  within : low ≤ length o.slots
  below : (k : ℕ) → is_taken earlier k ≡ true → k < low
  filled : (k : ℕ) → k < low → is_open o eto k ≡ true → is_taken earlier k ≡ true

later_low : (o : Occupancy) (earlier : List Assigned) (low e f : ℕ) → e ≤ f → IsLow o earlier low e → IsLow o earlier low f
later_low o earlier low e f le h = record { within = h.within; below = h.below; filled = λ k lt is. h.filled k lt (open_rises o e f k le is) }

record IsOpenAt (o : Occupancy) (eto k : ℕ) : Type 0 where
  listed : k < length o.slots
  from : is_from (wanted o.slots eto) k ≡ true
  clear : not (is_blocked o k) ≡ true

open_at : (o : Occupancy) (eto k : ℕ) → is_open o eto k ≡ true → IsOpenAt o eto k
open_at o eto k h =
    let parts = open_parts o eto k h in
    record { listed = ltb-true _ _ parts.0; from = parts.1; clear = ap not parts.2 }

-- what is found lies in the range
pub find_from : (p : ℕ → Bool) (a n i : ℕ) → find p (range_with_len a n) ≡ Some i → (a ≤ i) × (i < a + n) × (p i ≡ true)
find_from p a zero i h = cc
find_from p a (suc n) i h =
    elim (p a) as (λ t. p a ≡ t → cond t (Some a) (find p (range_with_len (a + 1) n)) ≡ Some i → (a ≤ i) × (i < a + suc n) × (p i ≡ true)) [
      | true ↦ λ e f. let same : a ≡ i = cc in (omega (arith, same), omega (arith, same), subst (λ j. p j ≡ true) same e)
      | false ↦ λ e f. let later : (a + 1 ≤ i) × (i < a + 1 + n) × (p i ≡ true) = find_from p (a + 1) n i f in (omega (arith, later.0), omega (arith, later.1), later.2)
    ] refl h

served_found : (o : Occupancy) (earlier : List Assigned) (low eto asked m : ℕ) → wanted o.slots eto ≡ Some asked → m ≡ max asked low → IsLow o earlier low eto →
    (found : Option ℕ) → find (is_clear (issued_counts o)) (range_with_len m (length o.slots - m)) ≡ found → IsFirstFrom (is_clear (issued_counts o)) m (length o.slots - m) found → IsServed o earlier eto (place_from found)
served_found o earlier low eto asked m asks is h None found first =
    λ k lt open_is.
    let at : IsOpenAt o eto k = open_at o eto k open_is in
    let from : asked ≤ k = leb-true _ _ (subst (λ w. is_from w k ≡ true) asks at.from) in
    elim (cases_lt k low) [
      | inl under ↦ h.filled k under open_is
      | inr above ↦ absurd (both_ways _ (first k (omega (arith, is, from, above)) (omega (arith, is, from, above, lt))) (clear_is o k lt ∙ at.clear))
    ]
served_found o earlier low eto asked m asks is h (Some j) found first =
    let at_least : m ≤ j = first.0 in
    let inside : (m ≤ j) × (j < m + (length o.slots - m)) × (is_clear (issued_counts o) j ≡ true) = find_from (is_clear (issued_counts o)) m (length o.slots - m) j found in
    let lt : j < length o.slots = omega (arith, inside.1, at_least) in
    let from : is_from (wanted o.slots eto) j ≡ true = subst (λ w. is_from w j ≡ true) (sym asks) (le-leb asked j (omega (arith, is, at_least))) in (
      and_from _ _ (lt-ltb _ _ lt) (and_from _ _ from (sym (clear_is o j lt) ∙ first.1)),
      false_from_ne_true _ (λ taken. let under : j < low = h.below j taken in absurd (omega (arith, under, at_least, is))),
      λ k before open_is.
          let at : IsOpenAt o eto k = open_at o eto k open_is in
          let k_from : asked ≤ k = leb-true _ _ (subst (λ w. is_from w k ≡ true) asks at.from) in
          elim (cases_lt k low) [
            | inl under ↦ h.filled k under open_is
            | inr above ↦ absurd (both_ways _ (first.2 k (omega (arith, is, k_from, above)) before) (clear_is o k at.listed ∙ at.clear))
          ],
    )

served_at : (o : Occupancy) (earlier : List Assigned) (low eto : ℕ) (asked : Option ℕ) → wanted o.slots eto ≡ asked → IsLow o earlier low eto → IsServed o earlier eto (place_asked (issued_counts o) low asked)
served_at o earlier low eto None asks h =
    λ k lt open_is. absurd (both_ways _ (ap (λ w. is_from w k) asks) (open_at o eto k open_is).from)
served_at o earlier low eto (Some asked) asks h =
    let size : length (issued_counts o) ≡ length o.slots = length-counts o.slots o.issued in
    let m : ℕ = max asked low in
    subst (λ n. IsServed o earlier eto (place_from (find (is_clear (issued_counts o)) (range_with_len m (n - m))))) (sym size)
    (served_found o earlier low eto asked m asks refl h (find (is_clear (issued_counts o)) (range_with_len m (length o.slots - m))) refl (find_first (is_clear (issued_counts o)) m (length o.slots - m)))

served_low : (o : Occupancy) (earlier : List Assigned) (low eto : ℕ) → IsLow o earlier low eto → IsServed o earlier eto (place_low o.slots (issued_counts o) low eto)
served_low o earlier low eto h = served_at o earlier low eto (wanted o.slots eto) refl h

taken_more : (earlier : List Assigned) (a : Assigned) (k : ℕ) → is_taken (earlier ++ a ∷ []) k ≡ true → (is_taken earlier k ≡ true) ⊎ (is_slot k a.place ≡ true)
taken_more earlier a k h =
    elim (or_cases _ _ (sym (list_any-append (λ (x : Assigned). is_slot k x.place) earlier (a ∷ [])) ∙ h)) [
      | inl old ↦ inl old
      | inr new ↦ elim (or_cases _ _ new) [ inl here ↦ inr here | inr no_more ↦ absurd (both_ways _ refl no_more) ]
    ]

taken_old : (earlier : List Assigned) (a : Assigned) (k : ℕ) → is_taken earlier k ≡ true → is_taken (earlier ++ a ∷ []) k ≡ true
taken_old earlier a k h = list_any-append (λ (x : Assigned). is_slot k x.place) earlier (a ∷ []) ∙ or_left _ _ h

taken_new : (earlier : List Assigned) (a : Assigned) (k : ℕ) → is_slot k a.place ≡ true → is_taken (earlier ++ a ∷ []) k ≡ true
taken_new earlier a k h = list_any-append (λ (x : Assigned). is_slot k x.place) earlier (a ∷ []) ∙ or_right _ _ (or_left _ _ h)

pub after_slot : (n k : ℕ) → k < n → low_after n (Slot k) ≡ k + 1
after_slot n k lt = ap (λ b. cond b (k + 1) n) (lt-ltb k n lt)

low_step : (o : Occupancy) (earlier : List Assigned) (low : ℕ) (c : Comp) (p : Place) → IsLow o earlier low c.eto → IsServed o earlier c.eto p → IsLow o (earlier ++ record { comp = c; place = p } ∷ []) (low_after (length o.slots) p) c.eto
low_step o earlier low c (Slot j) h served =
    let lt : j < length o.slots = (open_at o c.eto j served.0).listed in
    let above : low ≤ j = elim (cases_lt j low) [ inl under ↦ absurd (both_ways _ served.1 (h.filled j under served.0)) | inr at_least ↦ at_least ] in
    subst (λ m. IsLow o (earlier ++ record { comp = c; place = Slot j } ∷ []) m c.eto) (sym (after_slot (length o.slots) j lt))
    (record {
      within = omega (arith, lt);
      below = λ k is. elim (taken_more earlier _ k is) [
        | inl old ↦ let lower : k < low = h.below k old in omega (arith, lower, above)
        | inr new ↦ let same : k ≡ j = eqb-true _ _ new in omega (arith, same)
      ];
      filled = λ k under open_is. elim (cases_eq k j) [
        | inl same ↦ taken_new earlier _ k (eq-eqb _ _ same)
        | inr other ↦ taken_old earlier _ k (served.2 k (omega (arith, other, under)) open_is)
      ];
    })
low_step o earlier low c Over h served =
    record {
      within = omega arith;
      below = λ k is. elim (taken_more earlier _ k is) [
        | inl old ↦ let lower : k < low = h.below k old in omega (arith, lower, h.within)
        | inr new ↦ absurd (both_ways _ refl new)
      ];
      filled = λ k under open_is. taken_old earlier _ k (served k under open_is);
    }

assigned_walked : (o : Occupancy) (earlier : List Assigned) (low e : ℕ) (cs : List Comp) → IsLow o earlier low e → AreFrom e cs → AreRising cs → assigned_after o earlier cs ≡ walked o.slots (issued_counts o) low cs
assigned_walked o earlier low e [] h from rising = refl
assigned_walked o earlier low e (c ∷ cs) h from rising =
    let here : IsLow o earlier low c.eto = later_low o earlier low e c.eto from.0 h in
    let place : Place = place_low o.slots (issued_counts o) low c.eto in
    let served : IsServed o earlier c.eto place = served_low o earlier low c.eto here in
    let place_is : place_after o earlier c.eto ≡ place = served_once o earlier c.eto _ _ (place_served o earlier c.eto) served in
    let rest : assigned_after o (earlier ++ record { comp = c; place = place } ∷ []) cs ≡ walked o.slots (issued_counts o) (low_after (length o.slots) place) cs =
    assigned_walked o (earlier ++ record { comp = c; place = place } ∷ []) (low_after (length o.slots) place) c.eto cs (low_step o earlier low c place here served) rising.0 rising.1 in
    let size : length (issued_counts o) ≡ length o.slots = length-counts o.slots o.issued in
    ap (λ (p : Place). record { comp = c; place = p } ∷ assigned_after o (earlier ++ record { comp = c; place = p } ∷ []) cs) place_is
    ∙ ap (λ (ys : List Assigned). record { comp = c; place = place } ∷ ys) (rest ∙ ap (λ n. walked o.slots (issued_counts o) (low_after n place) cs) (sym size))

none_low : (o : Occupancy) → IsLow o [] 0 0
none_low o = record { within = omega arith; below = λ k is. absurd (both_ways _ refl is); filled = λ k lt is. absurd (omega (arith, lt)) }

from_zero : (cs : List Comp) → AreFrom 0 cs
from_zero [] = tt
from_zero (c ∷ cs) = (omega arith, from_zero cs)

pub places-walked : (l : Listing) → places l ≡ walked (slots l.profile) (issued_counts (occupancy l)) 0 (competitors l)
places-walked l = assigned_walked (occupancy l) [] 0 0 (competitors l) (none_low (occupancy l)) (from_zero (competitors l)) (rising-competitors l)
