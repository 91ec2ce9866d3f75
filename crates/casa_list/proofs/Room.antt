-- how many flights there are once one comes or goes and the others have walked
use Rattle.std.proofs.Common.{◌≡◌, ℕ, ◌+◌, ◌≤◌, List, [], ◌∷◌, length, take, drop, refl, sym, ◌∙◌, ap, arith, suc, Option, None, Some, length-append, length-drop}
use Rattle.std.specs.List.{remove}
use Rattle.std.proofs.lemmas.List.{length-map, length-take, take-append-drop}
use Rattle.casa_grid.specs.declared.slot.Window.{Window}
use Rattle.casa_flight.specs.declared.comp.Comp.{Comp}
use Rattle.casa_flight.specs.declared.comp.Assigned.{Assigned}
use Rattle.casa_flight.specs.Listing.{insert_sorted}
use Rattle.casa_slots.specs.declared.standing.Standing.{Standing}
use Rattle.casa_list.specs.Standings.{is_flight_before}
use Rattle.casa_slots.specs.Walk.{place_low, low_after, low_behind, count_below, walked, followed, walked_from_slot, comps_in}
use Rattle.casa_list.proofs.Ordered.{length-put}

length-walked : (ws : List Window) (bs : List ℕ) (low : ℕ) (cs : List Comp) → length (walked ws bs low cs) ≡ length cs
length-walked ws bs low [] = refl
length-walked ws bs low (c ∷ cs) = ap suc (length-walked ws bs (low_after (length bs) (place_low ws bs low c.eto)) cs)

length-comps : (xs : List Assigned) → length (comps_in xs) ≡ length xs
length-comps xs = length-map xs (λ (a : Assigned). a.comp)

length-followed : (ws : List Window) (bs : List ℕ) (front : List Assigned) (cs : List Comp) → length (followed ws bs front cs) ≡ length front + length cs
length-followed ws bs front cs =
    length-append front (walked ws bs (low_behind (length bs) 0 front) cs)
    ∙ ap (λ n. length front + n) (length-walked ws bs (low_behind (length bs) 0 front) cs)

parts : (i : ℕ) (xs : List Assigned) → length (take i xs) + length (drop i xs) ≡ length xs
parts i xs = sym (length-append (take i xs) (drop i xs)) ∙ ap length (take-append-drop i xs)

pub many_walked : (ws : List Window) (bs : List ℕ) (xs ys : List Assigned) → ys ≡ walked ws bs 0 (comps_in xs) → length ys ≡ length xs
many_walked ws bs xs ys is = ap length is ∙ length-walked ws bs 0 (comps_in xs) ∙ length-comps xs

pub many_from_slot : (ws : List Window) (bs : List ℕ) (slot : Option ℕ) (xs ys : List Assigned) → ys ≡ walked_from_slot ws bs xs slot → length ys ≡ length xs
many_from_slot ws bs None xs ys is = ap length is
many_from_slot ws bs (Some k) xs ys is =
    let i : ℕ = count_below xs k in
    ap length is
    ∙ length-followed ws bs (take i xs) (comps_in (drop i xs))
    ∙ ap (λ n. length (take i xs) + n) (length-comps (drop i xs))
    ∙ parts i xs

pub many_put : (ws : List Window) (bs : List ℕ) (i : ℕ) (c : Comp) (xs ys : List Assigned) → ys ≡ followed ws bs (take i xs) (c ∷ comps_in (drop i xs)) → length ys ≡ length xs + 1
many_put ws bs i c xs ys is =
    let size : length ys ≡ length (take i xs) + suc (length (comps_in (drop i xs))) = ap length is ∙ length-followed ws bs (take i xs) (c ∷ comps_in (drop i xs)) in
    omega (arith, size, length-comps (drop i xs), parts i xs)

pub many_out : (ws : List Window) (bs : List ℕ) (i : ℕ) (xs ys : List Assigned) → ys ≡ followed ws bs (take i xs) (comps_in (drop (i + 1) xs)) → length ys ≤ length xs
many_out ws bs i xs ys is =
    let size : length ys ≡ length (take i xs) + length (comps_in (drop (i + 1) xs)) = ap length is ∙ length-followed ws bs (take i xs) (comps_in (drop (i + 1) xs)) in
    omega (arith, size, length-comps (drop (i + 1) xs), parts i xs, length-drop (i + 1) xs, length-drop i xs)

pub many_held : (f : Comp × Standing) (fs gs : List (Comp × Standing)) → fs ≡ insert_sorted is_flight_before f gs → length fs ≡ length gs + 1
many_held f fs gs is =
    let size : length fs ≡ suc (length gs) = ap length is ∙ length-put (λ (g : Comp × Standing). g.0) f gs in
    omega (arith, size)

pub few_left : {X : Type 0} (i : ℕ) (xs ys : List X) → ys ≡ remove xs i → length ys ≤ length xs
few_left i xs ys is =
    let size : length ys ≡ length (take i xs) + length (drop (suc i) xs) = ap length is ∙ length-append (take i xs) (drop (suc i) xs) in
    omega (arith, size, length-take i xs, length-drop (suc i) xs)
