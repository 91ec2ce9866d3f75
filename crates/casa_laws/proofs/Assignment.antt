-- exactly one assignment is right
use Rattle.std.proofs.Common.{◌≡◌, ℕ, ◌+◌, ◌<◌, ◌≤◌, List, [], ◌∷◌, ◌++◌, length, take, Bool, true, false, not, ◌&&◌, refl, sym, ◌∙◌, ap, subst, arith, map, append_assoc, append-nil, zero, suc, ◌⊎◌, inl, inr, cond, Option, None, Some}
use Rattle.std.proofs.lemmas.List.{length-map}
use Rattle.std.proofs.Math.Seq.{take-append_seam}
use Rattle.std.specs.List.{range_with_len, find}
use Rattle.std.proofs.lemmas.Bool.{cases_order, cases_eq, and_parts, ltb-true, both_ways, not-true}
use Rattle.casa_grid.specs.declared.slot.Place.{Place}
use Rattle.casa_flight.specs.declared.comp.Comp.{Comp}
use Rattle.casa_flight.specs.declared.comp.Assigned.{Assigned}
use Rattle.casa_grid.specs.declared.slot.Place.TheVariants.{Slot, Over}
use Rattle.casa_flight.specs.Assignment.{Occupancy, is_open, is_free, is_taken, IsServed, IsRight, place_after, place_from, assigned_after, assignment}

-- no competitor has two right places
slot_slot : (o : Occupancy) (earlier : List Assigned) (eto j k : ℕ) → IsServed o earlier eto (Slot j) → IsServed o earlier eto (Slot k) → j < k → ⊥
slot_slot o earlier eto j k p q lt = both_ways _ p.1 (q.2 j lt p.0)

pub open_listed : (o : Occupancy) (eto k : ℕ) → is_open o eto k ≡ true → k < length o.slots
open_listed o eto k h = ltb-true _ _ ((and_parts _ _ h).0)

slot_over : (o : Occupancy) (earlier : List Assigned) (eto j : ℕ) → IsServed o earlier eto (Slot j) → IsServed o earlier eto Over → ⊥
slot_over o earlier eto j p q = both_ways _ p.1 (q j (open_listed o eto j p.0) p.0)

same_slot : (o : Occupancy) (earlier : List Assigned) (eto j k : ℕ) → IsServed o earlier eto (Slot j) → IsServed o earlier eto (Slot k) → (j ≡ k) ⊎ ((j < k) ⊎ (k < j)) → Slot j ≡ Slot k
same_slot o earlier eto j k s t (inl h) = ap Slot h
same_slot o earlier eto j k s t (inr (inl h)) = absurd (slot_slot o earlier eto j k s t h)
same_slot o earlier eto j k s t (inr (inr h)) = absurd (slot_slot o earlier eto k j t s h)

pub served_once : (o : Occupancy) (earlier : List Assigned) (eto : ℕ) (p q : Place) → IsServed o earlier eto p → IsServed o earlier eto q → p ≡ q
served_once o earlier eto Over Over s t = refl
served_once o earlier eto (Slot j) Over s t = absurd (slot_over o earlier eto j s t)
served_once o earlier eto Over (Slot k) s t = absurd (slot_over o earlier eto k t s)
served_once o earlier eto (Slot j) (Slot k) s t = same_slot o earlier eto j k s t (cases_order j k)

-- an assignment that goes on after these
abbrev IsRightAfter : Occupancy → List Assigned → List Assigned → Type 0
IsRightAfter o earlier xs = (before : List Assigned) (s : Assigned) (after : List Assigned) → xs ≡ before ++ s ∷ after → IsServed o (earlier ++ before) s.comp.eto s.place

right_tail : (o : Occupancy) (earlier : List Assigned) (x : Assigned) (xs : List Assigned) → IsRightAfter o earlier (x ∷ xs) → IsRightAfter o (earlier ++ x ∷ []) xs
right_tail o earlier x xs h before s after e =
    let served : IsServed o (earlier ++ (x ∷ before)) s.comp.eto s.place = h (x ∷ before) s after (ap (λ ys. x ∷ ys) e) in
    rw append_assoc served

right_head : (o : Occupancy) (earlier : List Assigned) (x : Assigned) (xs : List Assigned) → IsRightAfter o earlier (x ∷ xs) → IsServed o earlier x.comp.eto x.place
right_head o earlier x xs h =
    let served : IsServed o (earlier ++ []) x.comp.eto x.place = h [] x xs refl in
    rw append-nil at served

same_assigned : (x y : Assigned) → x.comp ≡ y.comp → x.place ≡ y.place → x ≡ y
same_assigned x y e p = λ i. record { comp = e i; place = p i }

abbrev pub comps_of : List Assigned → List Comp
comps_of xs = map (λ s. s.comp) xs

only_after : (o : Occupancy) (earlier xs ys : List Assigned) → comps_of xs ≡ comps_of ys → IsRightAfter o earlier xs → IsRightAfter o earlier ys → xs ≡ ys
only_after o earlier [] [] e h g = refl
only_after o earlier (x ∷ xs) [] e h g = cc
only_after o earlier [] (y ∷ ys) e h g = cc
only_after o earlier (x ∷ xs) (y ∷ ys) e h g =
    let comp_is : x.comp ≡ y.comp = cc in
    let comps_are : comps_of xs ≡ comps_of ys = cc in
    let here : x ≡ y = same_assigned x y comp_is (served_once o earlier x.comp.eto x.place y.place (right_head o earlier x xs h) (rw comp_is (right_head o earlier y ys g))) in
    let rest : xs ≡ ys = only_after o (earlier ++ x ∷ []) xs ys comps_are (right_tail o earlier x xs h) (rw here (right_tail o earlier y ys g)) in
    cc

-- at most one assignment is right
only_right : (o : Occupancy) (xs ys : List Assigned) → comps_of xs ≡ comps_of ys → IsRight o xs → IsRight o ys → xs ≡ ys
only_right o xs ys e h g = only_after o [] xs ys e h g

-- the first number that passes
abbrev pub IsFirstFrom : (ℕ → Bool) → ℕ → ℕ → Option ℕ → Type 0
IsFirstFrom p a n None = (j : ℕ) → a ≤ j → j < a + n → p j ≡ false
IsFirstFrom p a n (Some k) = (a ≤ k) × (p k ≡ true) × ((j : ℕ) → a ≤ j → j < k → p j ≡ false)

first_step : (p : ℕ → Bool) (a n : ℕ) (found : Option ℕ) → p a ≡ false → IsFirstFrom p (a + 1) n found → IsFirstFrom p a (suc n) found
first_step p a n None f h = λ j low high. elim (cases_eq a j) [ inl e ↦ subst (λ i. p i ≡ false) e f | inr ne ↦ h j (omega arith) (omega arith) ]
first_step p a n (Some k) f h = (omega (arith, h.0), h.1, λ j low high. elim (cases_eq a j) [ inl e ↦ subst (λ i. p i ≡ false) e f | inr ne ↦ h.2 j (omega arith) high ])

pub find_first : (p : ℕ → Bool) (a n : ℕ) → IsFirstFrom p a n (find p (range_with_len a n))
find_first p a zero = λ j low high. absurd (omega arith)
find_first p a (suc n) =
    elim (p a) as (λ t. p a ≡ t → IsFirstFrom p a (suc n) (cond t (Some a) (find p (range_with_len (a + 1) n)))) [
      | true ↦ λ e. (omega arith, e, λ j low high. absurd (omega arith))
      | false ↦ λ e. first_step p a n _ e (find_first p (a + 1) n)
    ] refl

taken_unless_free : (x y : Bool) → (x && not y) ≡ false → x ≡ true → y ≡ true
taken_unless_free true true e f = refl
taken_unless_free true false e f = sym e
taken_unless_free false y e f = cc

served_from : (o : Occupancy) (earlier : List Assigned) (eto : ℕ) (found : Option ℕ) → IsFirstFrom (is_free o earlier eto) 0 (length o.slots) found → IsServed o earlier eto (place_from found)
served_from o earlier eto None h = λ k below is. taken_unless_free _ _ (h k (omega arith) (omega arith)) is
served_from o earlier eto (Some k) h =
    let parts : (is_open o eto k ≡ true) × (not (is_taken earlier k) ≡ true) = and_parts _ _ h.1 in
    (parts.0, not-true _ parts.1, λ j below is. taken_unless_free _ _ (h.2 j (omega arith) below) is)

pub place_served : (o : Occupancy) (earlier : List Assigned) (eto : ℕ) → IsServed o earlier eto (place_after o earlier eto)
place_served o earlier eto = served_from o earlier eto _ (find_first (is_free o earlier eto) 0 (length o.slots))

nil_cut : (before : List Assigned) (s : Assigned) (after : List Assigned) → [] ≡ before ++ s ∷ after → ⊥
nil_cut [] s after e = cc
nil_cut (x ∷ before) s after e = cc

after_step : (o : Occupancy) (earlier : List Assigned) (c : Comp) (p : Place) → IsServed o earlier c.eto p → (xs : List Assigned) → IsRightAfter o (earlier ++ record { comp = c; place = p } ∷ []) xs → IsRightAfter o earlier (record { comp = c; place = p } ∷ xs)
after_step o earlier c p served xs rest [] s after cut =
    let here : record { comp = c; place = p } ≡ s = cc in
    rw append-nil (subst (λ t. IsServed o earlier t.comp.eto t.place) here served)
after_step o earlier c p served xs rest (x ∷ before) s after cut =
    let here : record { comp = c; place = p } ≡ x = cc in
    let cut_is : xs ≡ before ++ s ∷ after = cc in
    let later : IsServed o ((earlier ++ record { comp = c; place = p } ∷ []) ++ before) s.comp.eto s.place = rest before s after cut_is in
    subst (λ t. IsServed o (earlier ++ (t ∷ before)) s.comp.eto s.place) here (rw append_assoc at later)

after_right : (o : Occupancy) (earlier : List Assigned) (cs : List Comp) → IsRightAfter o earlier (assigned_after o earlier cs)
after_right o earlier [] = λ before s after e. absurd (nil_cut before s after e)
after_right o earlier (c ∷ cs) = λ before s after cut. after_step o earlier c (place_after o earlier c.eto) (place_served o earlier c.eto) _ (after_right o (earlier ++ record { comp = c; place = place_after o earlier c.eto } ∷ []) cs) before s after cut

-- the assignment that `assignment` gives is right
pub assignment_right : (o : Occupancy) (comps : List Comp) → IsRight o (assignment o comps)
assignment_right o comps = after_right o [] comps

comps-assigned_after : (o : Occupancy) (earlier : List Assigned) (cs : List Comp) → comps_of (assigned_after o earlier cs) ≡ cs
comps-assigned_after o earlier [] = refl
comps-assigned_after o earlier (c ∷ cs) = ap (λ ys. c ∷ ys) (comps-assigned_after o (earlier ++ record { comp = c; place = place_after o earlier c.eto } ∷ []) cs)

pub comps-assignment : (o : Occupancy) (comps : List Comp) → comps_of (assignment o comps) ≡ comps
comps-assignment o comps = comps-assigned_after o [] comps

-- exactly one assignment is right, and `assignment` computes it
pub right_is_assignment : (o : Occupancy) (xs : List Assigned) → IsRight o xs → xs ≡ assignment o (comps_of xs)
right_is_assignment o xs h = only_right o xs (assignment o (comps_of xs)) (sym (comps-assignment o (comps_of xs))) h (assignment_right o (comps_of xs))

-- later competitors change nothing for earlier ones
pub assigned_after-append : (o : Occupancy) (earlier : List Assigned) (xs ys : List Comp) → assigned_after o earlier (xs ++ ys) ≡ assigned_after o earlier xs ++ assigned_after o (earlier ++ assigned_after o earlier xs) ys
assigned_after-append o earlier [] ys = rw append-nil
assigned_after-append o earlier (x ∷ xs) ys =
    let this : Assigned = record { comp = x; place = place_after o earlier x.eto } in
    let rest : assigned_after o (earlier ++ this ∷ []) (xs ++ ys) ≡ assigned_after o (earlier ++ this ∷ []) xs ++ assigned_after o ((earlier ++ this ∷ []) ++ assigned_after o (earlier ++ this ∷ []) xs) ys = assigned_after-append o (earlier ++ this ∷ []) xs ys in
    ap (λ zs. this ∷ zs) (rest ∙ simp append_assoc)

pub take-assignment : (o : Occupancy) (cs ds : List Comp) → take (length cs) (assignment o (cs ++ ds)) ≡ assignment o cs
take-assignment o cs ds =
    let long : length (assignment o cs) ≡ length cs = sym (length-map (assignment o cs) (λ (a : Assigned). a.comp)) ∙ ap length (comps-assignment o cs) in
    ap (take (length cs)) (assigned_after-append o [] cs ds)
    ∙ ap (λ n. take n (assignment o cs ++ assigned_after o (assignment o cs) ds)) (sym long)
    ∙ take-append_seam (assignment o cs) (assigned_after o (assignment o cs) ds)
