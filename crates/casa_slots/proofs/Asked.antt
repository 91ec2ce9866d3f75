-- a competitor that the walk placed has asked for its slot, so it need not ask again where it is pushed on
use Rattle.std.proofs.Common.{◌≡◌, ℕ, ◌+◌, ◌-◌, ◌<◌, ◌≤◌, List, [], ◌∷◌, length, drop, get_or, set, true, refl, sym, ap, subst, arith, zero, suc, Option, None, Some, max}
use Rattle.std.proofs.lemmas.List.{drop_all}
use Rattle.std.specs.List.{AllByRecursion}
use Rattle.casa_grid.specs.declared.slot.Place.TheVariants.{Slot}
use Rattle.casa_grid.specs.declared.slot.Window.{Window}
use Rattle.casa_grid.specs.Slots.{wanted}
use Rattle.casa_flight.specs.declared.comp.Comp.{Comp}
use Rattle.casa_flight.specs.declared.comp.Assigned.{Assigned}
use Rattle.casa_flight.specs.Assignment.{place_from}
use Rattle.casa_slots.specs.Walk.{is_clear, clear_from, place_asked, place_low, low_after, walked, comps_in, FollowFirst, IsNotBefore}
use Rattle.casa_slots.proofs.Rightly.{find_from}

-- a competitor has no slot before the one that it asks for
abbrev pub HasAsked : List Window → Assigned → Type 0
HasAsked ws a = IsNotBefore (wanted ws a.comp.eto) a.place

asked_served : (bs : List ℕ) (low : ℕ) (asked : Option ℕ) → IsNotBefore asked (place_asked bs low asked)
asked_served bs low None = tt
asked_served bs low (Some asked) =
    elim (clear_from bs (max asked low)) as (λ (o : Option ℕ). clear_from bs (max asked low) ≡ o → IsNotBefore (Some asked) (place_from o)) [
      | None ↦ λ e. tt
      | Some i ↦ λ e.
          let m : ℕ = max asked low in
          let from : (m ≤ i) × (i < m + (length bs - m)) × (is_clear bs i ≡ true) = find_from (is_clear bs) m (length bs - m) i e in
          let at_least : asked ≤ m = omega arith in
          omega (arith, from.0, at_least)
    ] refl

asked-walked : (ws : List Window) (bs : List ℕ) (low : ℕ) (cs : List Comp) → AllByRecursion (HasAsked ws) (walked ws bs low cs)
asked-walked ws bs low [] = tt
asked-walked ws bs low (c ∷ cs) = (asked_served bs low (wanted ws c.eto), asked-walked ws bs (low_after (length bs) (place_low ws bs low c.eto)) cs)

-- those behind the first have
asked_set : (ws : List Window) (bs : List ℕ) (i : ℕ) (xs : List Assigned) (x : Assigned) → FollowFirst ws bs (drop i xs) → AllByRecursion (HasAsked ws) (drop (suc i) (set xs i x))
asked_set ws bs i [] x h = subst (AllByRecursion (HasAsked ws)) (sym (drop_all (suc i) (set [] i x) (omega arith))) tt
asked_set ws bs zero (z ∷ xs) x h = subst (AllByRecursion (HasAsked ws)) h (asked-walked ws bs (low_after (length bs) z.place) (comps_in xs))
asked_set ws bs (suc i) (z ∷ xs) x h = asked_set ws bs i xs x h

pub asked_more : (ws : List Window) (bs : List ℕ) (i : ℕ) (xs : List Assigned) (x : Assigned) → FollowFirst ws bs (drop i xs) → AllByRecursion (HasAsked ws) (drop (i + 1) (set xs i x))
asked_more ws bs i xs x h =
    let e : i + 1 ≡ suc i = omega arith in
    rw e (asked_set ws bs i xs x h)

pub asked_head : (ws : List Window) (i : ℕ) (xs : List Assigned) (x : Assigned) → i < length xs → x ≡ get_or xs i x → AllByRecursion (HasAsked ws) (drop i xs) → HasAsked ws x
asked_head ws i [] x lt is all = absurd (omega (arith, lt))
asked_head ws zero (z ∷ xs) x lt is all = subst (HasAsked ws) (sym is) all.0
asked_head ws (suc i) (z ∷ xs) x lt is all = asked_head ws i xs x (omega (arith, lt)) is all

-- where the place that it had is gone, so is the slot that it asks for
pub asked_gone : (bs : List ℕ) (low k : ℕ) (asked : Option ℕ) → IsNotBefore asked (Slot k) → k < low → place_from (clear_from bs low) ≡ place_asked bs low asked
asked_gone bs low k None h gone = absurd h
asked_gone bs low k (Some asked) h gone =
    let from : low ≡ max asked low = omega (arith, h, gone) in
    ap (λ m. place_from (clear_from bs m)) from
