-- the walk along competitors, and what stays as it was
use Rattle.std.proofs.Common.{◌≡◌, ℕ, ◌+◌, ◌-◌, ◌<◌, ◌≤◌, List, [], ◌∷◌, ◌++◌, length, take, drop, get_or, set, refl, sym, ◌∙◌, ap, subst, arith, zero, suc, Some, append_assoc}
use Rattle.std.proofs.lemmas.List.{drop_all}
use Rattle.std.specs.List.{slice_get, insert}
use Rattle.casa_slots.proofs.Inserted.{drop_inserted, take_inserted}
use Rattle.casa_grid.specs.declared.slot.Place.{Place}
use Rattle.casa_grid.specs.declared.slot.Window.{Window}
use Rattle.casa_flight.specs.declared.comp.Comp.{Comp}
use Rattle.casa_flight.specs.declared.comp.Assigned.{Assigned}
use Rattle.casa_slots.specs.Walk.{place_low, low_after, low_behind, walked, comps_in, FollowFirst}

-- what is gone behind competitors is what is gone behind the last of them
pub low_behind-last : (n low i : ℕ) (xs : List Assigned) (a : Assigned) → length xs ≡ suc i → slice_get xs i ≡ Some a → low_behind n low xs ≡ low_after n a.place
low_behind-last n low i [] a long is = absurd (omega (arith, long))
low_behind-last n low zero (x ∷ []) a long is =
    let same : x ≡ a = cc in
    ap (λ (b : Assigned). low_after n b.place) same
low_behind-last n low (suc i) (x ∷ []) a long is = absurd (omega (arith, long))
low_behind-last n low zero (x ∷ y ∷ xs) a long is = absurd (omega (arith, long))
low_behind-last n low (suc i) (x ∷ y ∷ xs) a long is = low_behind-last n (low_after n x.place) i (y ∷ xs) a (omega (arith, long)) is

pub low_behind-append : (n low : ℕ) (xs ys : List Assigned) → low_behind n low (xs ++ ys) ≡ low_behind n (low_behind n low xs) ys
low_behind-append n low [] ys = refl
low_behind-append n low (x ∷ xs) ys = low_behind-append n (low_after n x.place) xs ys

-- one step of the walk
walked_step : (ws : List Window) (bs : List ℕ) (low i : ℕ) (xs : List Assigned) (x : Assigned) → i < length xs → x ≡ get_or xs i x →
    let this : Assigned = record { comp = x.comp; place = place_low ws bs low x.comp.eto } in
    take (suc i) (set xs i this) ++ walked ws bs (low_after (length bs) this.place) (comps_in (drop (suc i) (set xs i this))) ≡ take i xs ++ walked ws bs low (comps_in (drop i xs))
walked_step ws bs low i [] x lt is = absurd (omega (arith, lt))
walked_step ws bs low zero (z ∷ xs) x lt is = ap (λ (w : Assigned). let this : Assigned = record { comp = w.comp; place = place_low ws bs low w.comp.eto } in this ∷ walked ws bs (low_after (length bs) this.place) (comps_in xs)) is
walked_step ws bs low (suc i) (z ∷ xs) x lt is = ap (λ ys. z ∷ ys) (walked_step ws bs low i xs x (omega (arith, lt)) is)

pub walked_more : (ws : List Window) (bs : List ℕ) (low i : ℕ) (xs : List Assigned) (x : Assigned) → i < length xs → x ≡ get_or xs i x →
    let this : Assigned = record { comp = x.comp; place = place_low ws bs low x.comp.eto } in
    take (i + 1) (set xs i this) ++ walked ws bs (low_after (length bs) this.place) (comps_in (drop (i + 1) (set xs i this))) ≡ take i xs ++ walked ws bs low (comps_in (drop i xs))
walked_more ws bs low i xs x lt is =
    let e : i + 1 ≡ suc i = omega arith in
    rw e (walked_step ws bs low i xs x lt is)

-- what follows the first follows the second
pub follow_step : (ws : List Window) (bs : List ℕ) (x : Assigned) (xs : List Assigned) → FollowFirst ws bs (x ∷ xs) → FollowFirst ws bs xs
follow_step ws bs x [] h = tt
follow_step ws bs x (y ∷ xs) h =
    let place_is : place_low ws bs (low_after (length bs) x.place) y.comp.eto ≡ y.place = cc in
    let rest_is : walked ws bs (low_after (length bs) (place_low ws bs (low_after (length bs) x.place) y.comp.eto)) (comps_in xs) ≡ xs = cc in
    subst (λ (p : Place). walked ws bs (low_after (length bs) p) (comps_in xs) ≡ xs) place_is rest_is

follow_set : (ws : List Window) (bs : List ℕ) (i : ℕ) (xs : List Assigned) (x : Assigned) → FollowFirst ws bs (drop i xs) → FollowFirst ws bs (drop (suc i) (set xs i x))
follow_set ws bs i [] x h = subst (λ zs. FollowFirst ws bs zs) (sym (drop_all (suc i) (set [] i x) (omega arith))) tt
follow_set ws bs zero (z ∷ xs) x h = follow_step ws bs z xs h
follow_set ws bs (suc i) (z ∷ xs) x h = follow_set ws bs i xs x h

pub follow_more : (ws : List Window) (bs : List ℕ) (i : ℕ) (xs : List Assigned) (x : Assigned) → FollowFirst ws bs (drop i xs) → FollowFirst ws bs (drop (i + 1) (set xs i x))
follow_more ws bs i xs x h =
    let e : i + 1 ≡ suc i = omega arith in
    rw e (follow_set ws bs i xs x h)

pub low_behind-end : (n low : ℕ) (xs : List Assigned) (a : Assigned) → slice_get xs (length xs - 1) ≡ Some a → low_behind n low xs ≡ low_after n a.place
low_behind-end n low [] a is = cc
low_behind-end n low (x ∷ xs) a is =
    let last : length (x ∷ xs) - 1 ≡ length xs = omega arith in
    low_behind-last n low (length xs) (x ∷ xs) a (omega arith) (subst (λ k. slice_get (x ∷ xs) k ≡ Some a) last is)

-- a competitor that is put in with its place, and those behind it on theirs
pub walked_put : (ws : List Window) (bs : List ℕ) (at : ℕ) (xs ys zs : List Assigned) (c : Comp) → at ≤ length xs →
    let low : ℕ = low_behind (length bs) 0 (take at xs) in
    ys ≡ insert xs at (record { comp = c; place = place_low ws bs low c.eto }) →
    zs ≡ take (at + 1) ys ++ walked ws bs (low_behind (length bs) 0 (take (at + 1) ys)) (comps_in (drop (at + 1) ys)) →
    zs ≡ take at xs ++ walked ws bs low (c ∷ comps_in (drop at xs))
walked_put ws bs at xs ys zs c le put walked_is =
    let low : ℕ = low_behind (length bs) 0 (take at xs) in
    let this : Assigned = record { comp = c; place = place_low ws bs low c.eto } in
    let front : take (at + 1) ys ≡ take at xs ++ this ∷ [] = ap (take (at + 1)) put ∙ take_inserted at xs this le in
    let back : drop (at + 1) ys ≡ drop at xs = ap (drop (at + 1)) put ∙ drop_inserted at xs this le in
    let gone : low_behind (length bs) 0 (take (at + 1) ys) ≡ low_after (length bs) this.place = ap (low_behind (length bs) 0) front ∙ low_behind-append (length bs) 0 (take at xs) (this ∷ []) in
    walked_is
    ∙ (λ j. front j ++ walked ws bs (gone j) (comps_in (back j)))
    ∙ append_assoc (take at xs) (this ∷ []) (walked ws bs (low_after (length bs) this.place) (comps_in (drop at xs)))

pub follow_put : (ws : List Window) (bs : List ℕ) (at : ℕ) (xs ys : List Assigned) (x : Assigned) → at ≤ length xs → ys ≡ insert xs at x → FollowFirst ws bs (drop at xs) → FollowFirst ws bs (drop (at + 1) ys)
follow_put ws bs at xs ys x le put h = subst (λ zs. FollowFirst ws bs zs) (sym (ap (drop (at + 1)) put ∙ drop_inserted at xs x le)) h
