-- along the competitors of a list, times over and places rise
use Rattle.std.proofs.Common.{◌≡◌, ℕ, ◌+◌, ◌<◌, ◌≤◌, List, [], ◌∷◌, ◌++◌, length, Bool, true, false, not, ◌&&◌, nat_lt, refl, sym, ◌∙◌, subst, arith, inl, inr, cond, None, Some, append_assoc}
use Rattle.std.specs.List.{AllByRecursion, filter_map, fold, position_or_len}
use Rattle.std.proofs.lemmas.List.Folds.{list_any-append}
use Rattle.std.proofs.lemmas.Bool.{cases_order, cases_lt, and_parts, and_from, ltb-true, lt-ltb, leb-true, le-leb, both_ways, or_cases, or_left, or_right, eqb-true, eq-eqb}
use Rattle.casa_grid.specs.declared.slot.Place.{Place}
use Rattle.casa_grid.specs.declared.slot.Place.TheVariants.{Slot, Over}
use Rattle.casa_grid.specs.declared.slot.Window.{Window}
use Rattle.casa_grid.specs.Slots.{wanted}
use Rattle.casa_flight.specs.declared.comp.Comp.{Comp}
use Rattle.casa_flight.specs.declared.comp.Assigned.{Assigned}
use Rattle.casa_flight.specs.declared.row.Stance.{Stance}
use Rattle.casa_filing.specs.Text.{Text}
use Rattle.casa_flight.specs.Assignment.{Occupancy, is_from, is_blocked, is_open, is_slot, is_taken, IsServed, Precedes}
use Rattle.casa_flight.specs.Listing.{Listing, insert_sorted, is_before, competitor, competitors, occupancy, places}
use Rattle.casa_filing.proofs.Entries.{all-each}
use Rattle.casa_flight.proofs.PutBy.{put_first, put_later, all-put_by}
use Rattle.casa_laws.proofs.Assignment.{open_listed, comps_of, comps-assignment, assignment_right}

-- times over from this one on
abbrev pub AreFrom : ℕ → List Comp → Type 0
AreFrom eto cs = AllByRecursion (λ (c : Comp). eto ≤ c.eto) cs

abbrev pub AreRising : List Comp → Type 0
AreRising [] = Unit {0}
AreRising (c ∷ cs) = AreFrom c.eto cs × AreRising cs

before_le : (c d : Comp) → is_before c d ≡ true → c.eto ≤ d.eto
before_le c d h =
    elim (or_cases _ _ h) [
      | inl less ↦ let lt : c.eto < d.eto = ltb-true _ _ less in omega (arith, lt)
      | inr tied ↦ let same : c.eto ≡ d.eto = eqb-true _ _ (and_parts _ _ tied).0 in omega (arith, same)
    ]

not_before_le : (c d : Comp) → is_before c d ≡ false → d.eto ≤ c.eto
not_before_le c d h =
    elim (cases_lt c.eto d.eto) [
      | inl lt ↦ absurd (both_ways _ h (or_left _ _ (lt-ltb c.eto d.eto lt)))
      | inr le ↦ le
    ]

rising-put : (c : Comp) (cs : List Comp) → AreRising cs → AreRising (insert_sorted is_before c cs)
rising-put c [] h = (tt, tt)
rising-put c (d ∷ cs) h =
    elim (is_before d c) as (λ b. is_before d c ≡ b → AreRising (insert_sorted is_before c (d ∷ cs))) [
      | true ↦ λ p. subst AreRising (sym (put_later is_before c d cs p)) (all-put_by (λ (x : Comp). d.eto ≤ x.eto) is_before c (before_le d c p) cs h.0, rising-put c cs h.1)
      | false ↦ λ p.
          let le : c.eto ≤ d.eto = not_before_le d c p in
          let rest : AreFrom c.eto cs = all-each (λ (x : Comp). d.eto ≤ x.eto) (λ (x : Comp). c.eto ≤ x.eto) (λ x from. omega (arith, le, from)) cs h.0 in
          subst AreRising (sym (put_first is_before c d cs p)) ((le, rest), h)
    ] refl

rising-fold : (cs ds : List Comp) → AreRising ds → AreRising (fold (λ ys x. insert_sorted is_before x ys) ds cs)
rising-fold [] ds h = h
rising-fold (c ∷ cs) ds h = rising-fold cs (insert_sorted is_before c ds) (rising-put c ds h)

pub rising-competitors : (l : Listing) → AreRising (competitors l)
rising-competitors l = rising-fold (filter_map (λ (e : Text × Stance). competitor e.0 e.1) l.flights) [] tt

from_cut : (eto : ℕ) (between : List Assigned) (b : Assigned) (after : List Assigned) → AreFrom eto (comps_of (between ++ b ∷ after)) → eto ≤ b.comp.eto
from_cut eto [] b after h = h.0
from_cut eto (x ∷ between) b after h = from_cut eto between b after h.1

rising_cut : (before : List Assigned) (a : Assigned) (between : List Assigned) (b : Assigned) (after : List Assigned) → AreRising (comps_of (before ++ a ∷ between ++ b ∷ after)) → a.comp.eto ≤ b.comp.eto
rising_cut [] a between b after h = from_cut a.comp.eto between b after h.0
rising_cut (x ∷ before) a between b after h = rising_cut before a between b after h.1

-- who comes later asks for no earlier slot
wanted_step : (a b : Bool) (m n : ℕ) → (b ≡ true → a ≡ true) → m ≤ n → cond (not a) (1 + m) 0 ≤ cond (not b) (1 + n) 0
wanted_step true b m n h le = omega arith
wanted_step false true m n h le = absurd (both_ways _ refl (h refl))
wanted_step false false m n h le = omega arith

wanted_rises : (e f : ℕ) → e ≤ f → (ws : List Window) → position_or_len (λ (w : Window). nat_lt e w.until) ws ≤ position_or_len (λ (w : Window). nat_lt f w.until) ws
wanted_rises e f le [] = omega arith
wanted_rises e f le (w ∷ ws) =
    wanted_step (nat_lt e w.until) (nat_lt f w.until) _ _ (λ h. lt-ltb _ _ (let lt : f < w.until = ltb-true _ _ h in omega arith)) (wanted_rises e f le ws)

pub from_parts : (n size k : ℕ) → is_from (cond (nat_lt n size) (Some n) None) k ≡ true → (n < size) × (n ≤ k)
from_parts n size k =
    elim (nat_lt n size) as (λ b. nat_lt n size ≡ b → is_from (cond b (Some n) None) k ≡ true → (n < size) × (n ≤ k)) [
      | true ↦ λ e h. (ltb-true _ _ e, leb-true _ _ h)
      | false ↦ λ e h. absurd (both_ways _ refl h)
    ] refl

from_made : (n size k : ℕ) → n < size → n ≤ k → is_from (cond (nat_lt n size) (Some n) None) k ≡ true
from_made n size k lt le = rw (lt-ltb n size lt) (le-leb n k le)

from_rises : (ws : List Window) (e f k : ℕ) → e ≤ f → is_from (wanted ws f) k ≡ true → is_from (wanted ws e) k ≡ true
from_rises ws e f k le h =
    let parts : (position_or_len (λ (w : Window). nat_lt f w.until) ws < length ws) × (position_or_len (λ (w : Window). nat_lt f w.until) ws ≤ k) = from_parts _ _ _ h in
    let rises : position_or_len (λ (w : Window). nat_lt e w.until) ws ≤ position_or_len (λ (w : Window). nat_lt f w.until) ws = wanted_rises e f le ws in
    let under : position_or_len (λ (w : Window). nat_lt e w.until) ws < length ws = omega (arith, parts.0, rises) in
    let at_most : position_or_len (λ (w : Window). nat_lt e w.until) ws ≤ k = omega (arith, parts.1, rises) in
    from_made _ _ _ under at_most

-- a slot that is open to one who comes later is open to one who comes earlier
pub open_rises : (o : Occupancy) (e f k : ℕ) → e ≤ f → is_open o f k ≡ true → is_open o e k ≡ true
open_rises o e f k le h =
    let outer : (nat_lt k (length o.slots) ≡ true) × ((is_from (wanted o.slots f) k && not (is_blocked o k)) ≡ true) = and_parts _ _ h in
    let inner : (is_from (wanted o.slots f) k ≡ true) × (not (is_blocked o k) ≡ true) = and_parts _ _ outer.1 in
    and_from _ _ outer.0 (and_from _ _ (from_rises o.slots e f k le inner.0) inner.1)

-- the place of one who comes later, where the earlier one and those before it have theirs
served_later : (o : Occupancy) (earlier later : List Assigned) (e f : ℕ) (p q : Place) → e ≤ f → ((k : ℕ) → is_taken earlier k ≡ true → is_taken later k ≡ true) → ((k : ℕ) → is_slot k p ≡ true → is_taken later k ≡ true) → IsServed o earlier e p → IsServed o later f q → Precedes p q
served_later o earlier later e f (Slot j) (Slot k) le more own s t =
    elim (cases_order j k) [
      | inl same ↦ absurd (both_ways _ t.1 (own k (eq-eqb k j (sym same))))
      | inr (inl lt) ↦ lt
      | inr (inr gt) ↦ absurd (both_ways _ t.1 (more k (s.2 k gt (open_rises o e f k le t.0))))
    ]
served_later o earlier later e f Over (Slot k) le more own s t =
    absurd (both_ways _ t.1 (more k (s k (open_listed o f k t.0) (open_rises o e f k le t.0))))
served_later o earlier later e f (Slot j) Over le more own s t = tt
served_later o earlier later e f Over Over le more own s t = tt

pub places_rising : (l : Listing) (before : List Assigned) (a : Assigned) (between : List Assigned) (b : Assigned) (after : List Assigned) → places l ≡ before ++ a ∷ between ++ b ∷ after → Precedes a.place b.place
places_rising l before a between b after cut =
    let o : Occupancy = occupancy l in
    let rising : AreRising (comps_of (places l)) = subst AreRising (sym (comps-assignment o (competitors l))) (rising-competitors l) in
    served_later o before (before ++ a ∷ between) a.comp.eto b.comp.eto a.place b.place
    (rising_cut before a between b after (subst (λ xs. AreRising (comps_of xs)) cut rising))
    (λ k h. list_any-append (λ (x : Assigned). is_slot k x.place) before (a ∷ between) ∙ or_left _ _ h)
    (λ k h. list_any-append (λ (x : Assigned). is_slot k x.place) before (a ∷ between) ∙ or_right _ _ (or_left _ _ h))
    (assignment_right o (competitors l) before a (between ++ b ∷ after) (cut ∙ append_assoc before (a ∷ between) (b ∷ after)))
    (assignment_right o (competitors l) (before ++ a ∷ between) b after cut)
