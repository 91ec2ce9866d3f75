-- a flight leaves its slot: the first clear slot, and the walk of competitors that move up
use Rattle.std.proofs.Common.{◌≡◌, ◌==◌, ℕ, ◌+◌, ◌-◌, ◌<◌, ◌≤◌, List, [], ◌∷◌, ◌++◌, length, take, drop, get_or, Bool, true, false, refl, sym, ◌∙◌, ap, subst, arith, zero, suc, inl, inr, cond, Option, None, Some, IfSome}
use Rattle.std.specs.Option.{option_map_or}
use Rattle.std.specs.List.{find, range_with_len, slice_get}
use Rattle.std.proofs.Math.Seq.{drop-cons}
use Rattle.std.proofs.lemmas.Bool.{both_ways, cases_eq, cases_lt, eqb-true, eq-eqb, ne_eqb}
use Rattle.std.proofs.lemmas.List.{take-append-drop}
use Rattle.casa_grid.specs.declared.slot.Window.{Window}
use Rattle.casa_flight.specs.declared.comp.Assigned.{Assigned}
use Rattle.casa_slots.specs.Blocked.{lowered}
use Rattle.casa_slots.specs.Walk.{is_clear, clear_from, place_low, low_after, low_behind, walked, comps_in, FollowFirst}
use Rattle.casa_slots.proofs.Counts.{agree_lowered}
use Rattle.casa_slots.proofs.Rightly.{find_from}
use Rattle.casa_slots.proofs.Walked.{AgreeBut, clear_below, find_agree}
use Rattle.casa_slots.proofs.Walks.{follow_step, low_behind-append}

-- the number of flights in a slot is one
abbrev pub is_one : List ℕ → ℕ → Bool
is_one bs k = option_map_or (λ (n : ℕ). n == 1) (slice_get bs k) false

-- a search over tests that agree but at k, which passes now, and behind which the search ended
find_sooner : (p q : ℕ → Bool) (a n k : ℕ) → ((j : ℕ) → (j ≡ k → ⊥) → q j ≡ p j) → q k ≡ true → a ≤ k → k < a + n → ((i : ℕ) → find p (range_with_len a n) ≡ Some i → k ≤ i) → find q (range_with_len a n) ≡ Some k
find_sooner p q a zero k agree passes from under late = absurd (omega (arith, from, under))
find_sooner p q a (suc n) k agree passes from under late =
    elim (cases_eq a k) [
      | inl same ↦ ap (λ b. cond b (Some a) (find q (range_with_len (a + 1) n))) (ap q same ∙ passes) ∙ ap Some same
      | inr other ↦
          elim (p a) as (λ b. p a ≡ b → find q (range_with_len a (suc n)) ≡ Some k) [
            | true ↦ λ e.
                let early : k ≤ a = late a (ap (λ b. cond b (Some a) (find p (range_with_len (a + 1) n))) e) in
                absurd (other (omega (arith, early, from)))
            | false ↦ λ e.
                let fails : q a ≡ false = agree a other ∙ e in
                ap (λ b. cond b (Some a) (find q (range_with_len (a + 1) n))) fails
                ∙ find_sooner p q (a + 1) n k agree passes (omega (arith, from, other)) (omega (arith, under)) (λ i is. late i (ap (λ b. cond b (Some a) (find p (range_with_len (a + 1) n))) e ∙ is))
          ] refl
    ]

-- the slot is clear then if one flight had it, and else as clear as it was
one_lowered : (bs : List ℕ) (k : ℕ) → is_one bs k ≡ true → is_clear (lowered bs (Some k)) k ≡ true
one_lowered [] k one = cc
one_lowered (b ∷ bs) zero one =
    let is : b ≡ 1 = eqb-true b 1 one in
    eq-eqb (b - 1) 0 (omega (arith, is))
one_lowered (b ∷ bs) (suc k) one = one_lowered bs k one

other_lowered : (bs : List ℕ) (k : ℕ) → is_one bs k ≡ false → is_clear (lowered bs (Some k)) k ≡ is_clear bs k
other_lowered [] k other = refl
other_lowered (b ∷ bs) zero other =
    elim (cases_eq b 0) [
      | inl none ↦ eq-eqb (b - 1) 0 (omega (arith, none)) ∙ sym (eq-eqb b 0 none)
      | inr some ↦ ne_eqb (b - 1) 0 (λ less. both_ways _ other (eq-eqb b 1 (omega (arith, less, some)))) ∙ sym (ne_eqb b 0 some)
    ]
other_lowered (b ∷ bs) (suc k) other = other_lowered bs k other

one_within : (bs : List ℕ) (k : ℕ) → is_one bs k ≡ true → k < length bs
one_within [] k one = cc
one_within (b ∷ bs) zero one = omega arith
one_within (b ∷ bs) (suc k) one = let rest : k < length bs = one_within bs k one in omega (arith, rest)

one_blocks : (bs : List ℕ) (k : ℕ) → is_one bs k ≡ true → is_clear bs k ≡ true → ⊥
one_blocks [] k one clear = cc
one_blocks (b ∷ bs) zero one clear =
    let is : b ≡ 1 = eqb-true b 1 one in
    let none : b ≡ 0 = eqb-true b 0 clear in
    omega (arith, is, none)
one_blocks (b ∷ bs) (suc k) one clear = one_blocks bs k one clear

-- where the look for a clear slot from m on comes to slot k, as nothing is clear before it
abbrev pub ComesTo : List ℕ → ℕ → ℕ → Type 0
ComesTo bs k m = (m ≤ k) × IfSome (clear_from bs m) (λ (i : ℕ). k < i)

-- so that slot is the first clear one then
pub sooner : (bs : List ℕ) (k m : ℕ) → ComesTo bs k m → is_one bs k ≡ true → Some k ≡ clear_from (lowered bs (Some k)) m
sooner bs k m (from, late) one =
    let ds : List ℕ = lowered bs (Some k) in
    let agree : AgreeBut bs ds k = agree_lowered bs ds (Some k) refl in
    let under : k < length bs = one_within bs k one in
    let behind : (i : ℕ) → clear_from bs m ≡ Some i → k ≤ i =
    λ i is. let lt : k < i = subst (λ (o : Option ℕ). IfSome o (λ (j : ℕ). k < j)) is late in omega (arith, lt) in
    sym (ap (λ n. find (is_clear ds) (range_with_len m (n - m))) agree.size
    ∙ find_sooner (is_clear bs) (is_clear ds) m (length bs - m) k agree.clear (one_lowered bs k one) from (omega (arith, under, from)) behind)

-- and else it is the one that it was
same_found : (bs : List ℕ) (k m : ℕ) → (m ≤ k → is_clear (lowered bs (Some k)) k ≡ is_clear bs k) → clear_from bs m ≡ clear_from (lowered bs (Some k)) m
same_found bs k m here =
    let ds : List ℕ = lowered bs (Some k) in
    let agree : AgreeBut bs ds k = agree_lowered bs ds (Some k) refl in
    let each : (j : ℕ) → m ≤ j → is_clear ds j ≡ is_clear bs j =
    λ j low. elim (cases_eq j k) [
      | inl same ↦ ap (is_clear ds) same ∙ here (omega (arith, low, same)) ∙ ap (is_clear bs) (sym same)
      | inr other ↦ agree.clear j other
    ] in
    sym (ap (λ n. find (is_clear ds) (range_with_len m (n - m))) agree.size
    ∙ find_agree (is_clear bs) (is_clear ds) m (length bs - m) (λ j low high. each j low))

pub stays : (bs : List ℕ) (k m : ℕ) → (ComesTo bs k m → is_one bs k ≡ true → ⊥) → clear_from bs m ≡ clear_from (lowered bs (Some k)) m
stays bs k m not_so =
    let ds : List ℕ = lowered bs (Some k) in
    let Late : Option ℕ → Type 0 = λ o. IfSome o (λ (i : ℕ). k < i) in
    elim (is_one bs k) as (λ b. is_one bs k ≡ b → clear_from bs m ≡ clear_from ds m) [
      | false ↦ λ other. same_found bs k m (λ from. other_lowered bs k other)
      | true ↦ λ one.
          elim (cases_lt k m) [
            | inl past ↦ same_found bs k m (λ from. absurd (omega (arith, past, from)))
            | inr from ↦
                elim (clear_from bs m) as (λ (o : Option ℕ). clear_from bs m ≡ o → clear_from bs m ≡ clear_from ds m) [
                  | None ↦ λ is. absurd (not_so (from, subst Late (sym is) tt) one)
                  | Some i ↦ λ is.
                      elim (cases_lt k i) [
                        | inl behind ↦ absurd (not_so (from, subst Late (sym is) behind) one)
                        | inr at_most ↦
                            elim (cases_eq i k) [
                              | inl same ↦
                                  let found : (m ≤ i) × (i < m + (length bs - m)) × (is_clear bs i ≡ true) = find_from (is_clear bs) m (length bs - m) i is in
                                  absurd (one_blocks bs k one (ap (is_clear bs) (sym same) ∙ found.2))
                              | inr other ↦ is ∙ sym (clear_below bs ds k m i (agree_lowered bs ds (Some k) refl) is (omega (arith, at_most, other)))
                            ]
                      ]
                ] refl
          ]
    ] refl

-- there are as many slots
pub length-lowered : (bs : List ℕ) (left : Option ℕ) → length (lowered bs left) ≡ length bs
length-lowered bs None = refl
length-lowered bs (Some k) = (agree_lowered bs (lowered bs (Some k)) (Some k) refl).size

-- the walk from one competitor on is its place, and the walk from the next one on
from_one : (i : ℕ) (xs : List Assigned) (x : Assigned) → i < length xs → x ≡ get_or xs i x → drop i xs ≡ x ∷ drop (i + 1) xs
from_one i xs x lt is =
    let e : i + 1 ≡ suc i = omega arith in
    drop-cons xs i x lt ∙ (λ j. sym is j ∷ drop (sym e j) xs)

pub walk_next : (ws : List Window) (bs : List ℕ) (low i : ℕ) (xs : List Assigned) (x : Assigned) → i < length xs → x ≡ get_or xs i x →
    let next : ℕ = low_after (length bs) (place_low ws bs low x.comp.eto) in
    low_behind (length bs) low (walked ws bs low (comps_in (drop i xs))) ≡ low_behind (length bs) next (walked ws bs next (comps_in (drop (i + 1) xs)))
walk_next ws bs low i xs x lt is = ap (λ ys. low_behind (length bs) low (walked ws bs low (comps_in ys))) (from_one i xs x lt is)

pub follow_next : (ws : List Window) (bs : List ℕ) (i : ℕ) (xs : List Assigned) (x : Assigned) → i < length xs → x ≡ get_or xs i x → FollowFirst ws bs (drop i xs) → FollowFirst ws bs (drop (i + 1) xs)
follow_next ws bs i xs x lt is h = follow_step ws bs x (drop (i + 1) xs) (subst (λ ys. FollowFirst ws bs ys) (from_one i xs x lt is) h)

-- where its place stays, so do those behind it
pub walk_stays : (ws : List Window) (bs : List ℕ) (low i : ℕ) (xs : List Assigned) (x : Assigned) → i < length xs → x ≡ get_or xs i x → place_low ws bs low x.comp.eto ≡ x.place → FollowFirst ws bs (drop i xs) →
    low_behind (length bs) 0 xs ≡ low_behind (length bs) low (walked ws bs low (comps_in (drop i xs)))
walk_stays ws bs low i xs x lt is same h =
    let n : ℕ = length bs in
    let rest : List Assigned = drop (i + 1) xs in
    let parts : take i xs ++ x ∷ rest ≡ xs = ap (λ ys. take i xs ++ ys) (sym (from_one i xs x lt is)) ∙ take-append-drop i xs in
    let follow : walked ws bs (low_after n x.place) (comps_in rest) ≡ rest = subst (λ ys. FollowFirst ws bs ys) (from_one i xs x lt is) h in
    ap (low_behind n 0) (sym parts)
    ∙ low_behind-append n 0 (take i xs) (x ∷ rest)
    ∙ sym (ap (λ ys. low_behind n low (walked ws bs low (comps_in ys))) (from_one i xs x lt is)
    ∙ (λ j. low_behind n (low_after n (same j)) (walked ws bs (low_after n (same j)) (comps_in rest)))
    ∙ ap (low_behind n (low_after n x.place)) follow)
