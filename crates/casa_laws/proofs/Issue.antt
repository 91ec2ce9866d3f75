-- an assignment stays right where a competitor goes and its place is blocked
use Rattle.std.proofs.Common.{◌≡◌, ℕ, ◌<◌, List, [], ◌∷◌, ◌++◌, length, Bool, true, false, not, ◌&&◌, ◌||◌, nat_lt, refl, sym, ◌∙◌, ap, subst, ◌⊎◌, inl, inr, append_assoc}
use Rattle.std.proofs.lemmas.List.Folds.{list_any-append}
use Rattle.std.proofs.lemmas.Bool.{and_parts, and_from, both_ways, not-true, or_left, or_right, or_parts, or_from, eqb-true, eq-eqb, not_from_false, false_from_ne_true}
use Rattle.casa_grid.specs.declared.slot.Place.{Place}
use Rattle.casa_grid.specs.declared.slot.Place.TheVariants.{Slot, Over}
use Rattle.casa_grid.specs.Slots.{wanted}
use Rattle.casa_flight.specs.declared.comp.Assigned.{Assigned}
use Rattle.casa_flight.specs.Assignment.{Occupancy, is_from, is_blocked, is_open, is_slot, is_taken, IsServed, IsRight}

-- the second occupancy has the slots of the first, and this place is blocked besides
pub record BlocksToo (o d : Occupancy) (p : Place) : Type 0 where
  pub slots : d.slots ≡ o.slots
  pub blocked : (j : ℕ) → is_blocked d j ≡ (is_blocked o j || is_slot j p)

-- what an open slot is
pub open_parts : (o : Occupancy) (eto j : ℕ) → is_open o eto j ≡ true → (nat_lt j (length o.slots) ≡ true) × (is_from (wanted o.slots eto) j ≡ true) × (is_blocked o j ≡ false)
open_parts o eto j h =
    let outer : (nat_lt j (length o.slots) ≡ true) × ((is_from (wanted o.slots eto) j && not (is_blocked o j)) ≡ true) = and_parts _ _ h in
    let inner : (is_from (wanted o.slots eto) j ≡ true) × (not (is_blocked o j) ≡ true) = and_parts _ _ outer.1 in
    (outer.0, inner.0, not-true _ inner.1)

open_made : (o : Occupancy) (eto j : ℕ) → nat_lt j (length o.slots) ≡ true → is_from (wanted o.slots eto) j ≡ true → is_blocked o j ≡ false → is_open o eto j ≡ true
open_made o eto j under asked free = and_from _ _ under (and_from _ _ asked (not_from_false _ free))

open_before : (o d : Occupancy) (p : Place) → BlocksToo o d p → (eto j : ℕ) → is_open d eto j ≡ true → (is_open o eto j ≡ true) × (is_slot j p ≡ false)
open_before o d p h eto j is =
    let parts = open_parts d eto j is in
    let free : (is_blocked o j ≡ false) × (is_slot j p ≡ false) = or_parts _ _ (sym (h.blocked j) ∙ parts.2) in
    (open_made o eto j (subst (λ ws. nat_lt j (length ws) ≡ true) h.slots parts.0) (subst (λ ws. is_from (wanted ws eto) j ≡ true) h.slots parts.1) free.0, free.1)

open_after : (o d : Occupancy) (p : Place) → BlocksToo o d p → (eto j : ℕ) → is_open o eto j ≡ true → is_slot j p ≡ false → is_open d eto j ≡ true
open_after o d p h eto j is other =
    let parts = open_parts o eto j is in
    open_made d eto j (subst (λ ws. nat_lt j (length ws) ≡ true) (sym h.slots) parts.0) (subst (λ ws. is_from (wanted ws eto) j ≡ true) (sym h.slots) parts.1) (h.blocked j ∙ or_from _ _ parts.2 other)

-- what is right for a competitor stays right where a place is blocked that is not its own, and its former holder goes
served_on : (o d : Occupancy) (p : Place) → BlocksToo o d p → (old new : List Assigned) (eto : ℕ) (q : Place) → ((j : ℕ) → is_taken new j ≡ true → is_taken old j ≡ true) → ((j : ℕ) → is_slot j p ≡ false → is_taken old j ≡ true → is_taken new j ≡ true)
    → ((j : ℕ) → q ≡ Slot j → is_slot j p ≡ false) → IsServed o old eto q → IsServed d new eto q
served_on o d p h old new eto (Slot k) less more other served = (
  open_after o d p h eto k served.0 (other k refl),
  false_from_ne_true _ (λ taken. both_ways _ served.1 (less k taken)),
  λ j lt is. let was : (is_open o eto j ≡ true) × (is_slot j p ≡ false) = open_before o d p h eto j is in more j was.1 (served.2 j lt was.0),
)
served_on o d p h old new eto Over less more other served =
    λ j lt is.
    let was : (is_open o eto j ≡ true) × (is_slot j p ≡ false) = open_before o d p h eto j is in
    more j was.1 (served j (subst (λ ws. j < length ws) h.slots lt) was.0)

-- where a cut of a joined list falls: in the first part or in the second
abbrev IsCutLeft : List Assigned → List Assigned → List Assigned → Assigned → List Assigned → Type 0
IsCutLeft xs ys before a after = (rest : List Assigned) × ((xs ≡ before ++ a ∷ rest) × (after ≡ rest ++ ys))

abbrev IsCutRight : List Assigned → List Assigned → List Assigned → Assigned → List Assigned → Type 0
IsCutRight xs ys before a after = (front : List Assigned) × ((before ≡ xs ++ front) × (ys ≡ front ++ a ∷ after))

cut_more : (z : Assigned) (xs ys before : List Assigned) (a : Assigned) (after : List Assigned) → IsCutLeft xs ys before a after ⊎ IsCutRight xs ys before a after → IsCutLeft (z ∷ xs) ys (z ∷ before) a after ⊎ IsCutRight (z ∷ xs) ys (z ∷ before) a after
cut_more z xs ys before a after (inl h) = inl (h.0, (ap (λ ws. z ∷ ws) h.1.0, h.1.1))
cut_more z xs ys before a after (inr h) = inr (h.0, (ap (λ ws. z ∷ ws) h.1.0, h.1.1))

cut_joined : (xs ys before : List Assigned) (a : Assigned) (after : List Assigned) → xs ++ ys ≡ before ++ a ∷ after → IsCutLeft xs ys before a after ⊎ IsCutRight xs ys before a after
cut_joined [] ys before a after e = inr (before, (refl, e))
cut_joined (z ∷ xs) ys [] a after e =
    let here : z ≡ a = cc in
    let rest : xs ++ ys ≡ after = cc in
    inl (xs, (ap (λ w. w ∷ xs) here, sym rest))
cut_joined (z ∷ xs) ys (w ∷ before) a after e =
    let here : z ≡ w = cc in
    let rest : xs ++ ys ≡ before ++ a ∷ after = cc in
    subst (λ v. IsCutLeft (z ∷ xs) ys (v ∷ before) a after ⊎ IsCutRight (z ∷ xs) ys (v ∷ before) a after) here (cut_more z xs ys before a after (cut_joined xs ys before a after rest))

taken-append : (xs ys : List Assigned) (j : ℕ) → is_taken (xs ++ ys) j ≡ (is_taken xs j || is_taken ys j)
taken-append xs ys j = list_any-append (λ (a : Assigned). is_slot j a.place) xs ys

or_between : (x y z : Bool) → (x || z) ≡ true → (x || (y || z)) ≡ true
or_between true y z h = refl
or_between false true z h = refl
or_between false false z h = h

or_but : (x y z : Bool) → y ≡ false → (x || (y || z)) ≡ true → (x || z) ≡ true
or_but true y z other h = refl
or_but false true z other h = absurd (both_ways _ other refl)
or_but false false z other h = h

taken_without : (xs ys : List Assigned) (s : Assigned) (j : ℕ) → is_taken (xs ++ ys) j ≡ true → is_taken (xs ++ s ∷ ys) j ≡ true
taken_without xs ys s j h = taken-append xs (s ∷ ys) j ∙ or_between (is_taken xs j) (is_slot j s.place) (is_taken ys j) (sym (taken-append xs ys j) ∙ h)

taken_but : (xs ys : List Assigned) (s : Assigned) (j : ℕ) → is_slot j s.place ≡ false → is_taken (xs ++ s ∷ ys) j ≡ true → is_taken (xs ++ ys) j ≡ true
taken_but xs ys s j other h = taken-append xs ys j ∙ or_but (is_taken xs j) (is_slot j s.place) (is_taken ys j) other (sym (taken-append xs (s ∷ ys) j) ∙ h)

slot_itself : (j : ℕ) → is_slot j (Slot j) ≡ true
slot_itself j = eq-eqb j j refl

slot_is : (j : ℕ) (p : Place) → is_slot j p ≡ true → p ≡ Slot j
slot_is j Over h = absurd (both_ways _ refl h)
slot_is j (Slot k) h = ap Slot (sym (eqb-true _ _ h))

taken_among : (before rest : List Assigned) (a : Assigned) (j : ℕ) → a.place ≡ Slot j → is_taken (before ++ a ∷ rest) j ≡ true
taken_among before rest a j e = taken-append before (a ∷ rest) j ∙ or_right _ _ (or_left _ _ (subst (λ p. is_slot j p ≡ true) (sym e) (slot_itself j)))

-- no earlier competitor has the slot of a later one
not_taken : (o : Occupancy) (earlier : List Assigned) (eto j : ℕ) (p : Place) → IsServed o earlier eto p → is_slot j p ≡ true → is_taken earlier j ≡ false
not_taken o earlier eto j Over served h = absurd (both_ways _ refl h)
not_taken o earlier eto j (Slot k) served h = subst (λ i. is_taken earlier i ≡ false) (sym (eqb-true _ _ h)) served.1

-- a competitor of a right assignment goes, and its place is blocked: the others are right where they are
pub right_without : (o d : Occupancy) (xs : List Assigned) (s : Assigned) (ys : List Assigned) → BlocksToo o d s.place → IsRight o (xs ++ s ∷ ys) → IsRight d (xs ++ ys)
right_without o d xs s ys h right before a after cut =
    elim (cut_joined xs ys before a after cut) [
      | inl left ↦
          let all : xs ++ s ∷ ys ≡ before ++ a ∷ (left.0 ++ s ∷ ys) = ap (λ ws. ws ++ s ∷ ys) left.1.0 ∙ append_assoc before (a ∷ left.0) (s ∷ ys) in
          let own : IsServed o xs s.comp.eto s.place = right xs s ys refl in
          served_on o d s.place h before before a.comp.eto a.place (λ j t. t) (λ j other t. t)
          (λ j e. false_from_ne_true _ (λ is. both_ways _ (not_taken o xs s.comp.eto j s.place own is) (subst (λ ws. is_taken ws j ≡ true) (sym left.1.0) (taken_among before left.0 a j e))))
          (right before a (left.0 ++ s ∷ ys) all)
      | inr behind ↦
          let all : xs ++ s ∷ ys ≡ (xs ++ s ∷ behind.0) ++ a ∷ after = ap (λ ws. xs ++ s ∷ ws) behind.1.1 ∙ sym (append_assoc xs (s ∷ behind.0) (a ∷ after)) in
          let was : IsServed o (xs ++ s ∷ behind.0) a.comp.eto a.place = right (xs ++ s ∷ behind.0) a after all in
          subst (λ ws. IsServed d ws a.comp.eto a.place) (sym behind.1.0)
          (served_on o d s.place h (xs ++ s ∷ behind.0) (xs ++ behind.0) a.comp.eto a.place
          (λ j t. taken_without xs behind.0 s j t) (λ j other t. taken_but xs behind.0 s j other t)
          (λ j e. false_from_ne_true _ (λ is.
          both_ways _ (not_taken o (xs ++ s ∷ behind.0) a.comp.eto j a.place was (subst (λ p. is_slot j p ≡ true) (sym e) (slot_itself j))) (taken_among xs behind.0 s j (slot_is j s.place is))))
          was)
    ]
