-- parts of a walk, and what a walk leaves as it is where one slot's count changes
use Rattle.std.proofs.Common.{◌≡◌, ℕ, ◌+◌, ◌-◌, ◌<◌, ◌≤◌, List, [], ◌∷◌, ◌++◌, length, take, drop, Bool, true, false, not, nat_lt, refl, sym, ◌∙◌, ap, subst, arith, zero, suc, inl, inr, cond, Option, None, Some, max}
use Rattle.std.specs.List.{AllByRecursion, range_with_len, find, position_or_len, slice_get}
use Rattle.std.specs.List.Sorted.{IsPartitionedBy}
use Rattle.std.proofs.lemmas.Bool.{cases_lt, false_from_ne_true, ltb-true, ltb-false}
use Rattle.std.proofs.lemmas.List.{take-map}
use Rattle.casa_grid.specs.declared.slot.Place.{Place}
use Rattle.casa_grid.specs.declared.slot.Place.TheVariants.{Slot, Over}
use Rattle.casa_grid.specs.declared.slot.Window.{Window}
use Rattle.casa_grid.specs.Slots.{wanted}
use Rattle.casa_flight.specs.declared.comp.Comp.{Comp}
use Rattle.casa_flight.specs.declared.comp.Assigned.{Assigned}
use Rattle.casa_flight.specs.Assignment.{place_from}
use Rattle.casa_slots.specs.Walk.{is_clear, clear_from, place_asked, place_low, low_after, low_behind, walked, comps_in, FollowFirst, FollowFrom, walked_from_slot, is_below, count_below, PlacesRise, IsWithin}
use Rattle.casa_flight.proofs.PutBy.{PairsByRecursion}
use Rattle.casa_slots.proofs.Found.{parted, index_is}
use Rattle.casa_slots.proofs.Walks.{follow_step}
use Rattle.casa_slots.proofs.Rightly.{find_from, after_slot}

pub comps-walked : (ws : List Window) (bs : List ℕ) (low : ℕ) (cs : List Comp) → comps_in (walked ws bs low cs) ≡ cs
comps-walked ws bs low [] = refl
comps-walked ws bs low (c ∷ cs) = ap (λ ds. c ∷ ds) (comps-walked ws bs (low_after (length bs) (place_low ws bs low c.eto)) cs)

pub walked-append : (ws : List Window) (bs : List ℕ) (low : ℕ) (cs ds : List Comp) → walked ws bs low (cs ++ ds) ≡ walked ws bs low cs ++ walked ws bs (low_behind (length bs) low (walked ws bs low cs)) ds
walked-append ws bs low [] ds = refl
walked-append ws bs low (c ∷ cs) ds =
    let place : Place = place_low ws bs low c.eto in
    ap (λ (ys : List Assigned). record { comp = c; place = place } ∷ ys) (walked-append ws bs (low_after (length bs) place) cs ds)

pub walked-take : (ws : List Window) (bs : List ℕ) (low i : ℕ) (cs : List Comp) → walked ws bs low (take i cs) ≡ take i (walked ws bs low cs)
walked-take ws bs low zero cs = refl
walked-take ws bs low (suc i) [] = refl
walked-take ws bs low (suc i) (c ∷ cs) =
    let place : Place = place_low ws bs low c.eto in
    ap (λ (ys : List Assigned). record { comp = c; place = place } ∷ ys) (walked-take ws bs (low_after (length bs) place) i cs)

pub follow_walked : (ws : List Window) (bs : List ℕ) (low : ℕ) (cs : List Comp) → FollowFirst ws bs (walked ws bs low cs)
follow_walked ws bs low [] = tt
follow_walked ws bs low (c ∷ cs) =
    let next : ℕ = low_after (length bs) (place_low ws bs low c.eto) in
    ap (walked ws bs next) (comps-walked ws bs next cs)

pub follow_drop : (ws : List Window) (bs : List ℕ) (i : ℕ) (xs : List Assigned) → FollowFirst ws bs xs → FollowFirst ws bs (drop i xs)
follow_drop ws bs zero xs h = h
follow_drop ws bs (suc i) [] h = tt
follow_drop ws bs (suc i) (x ∷ xs) h = follow_drop ws bs i xs (follow_step ws bs x xs h)

pub follow_take : (ws : List Window) (bs : List ℕ) (i : ℕ) (xs : List Assigned) → FollowFirst ws bs xs → FollowFirst ws bs (take i xs)
follow_take ws bs zero xs h = tt
follow_take ws bs (suc i) [] h = tt
follow_take ws bs (suc i) (x ∷ xs) h =
    let low : ℕ = low_after (length bs) x.place in
    ap (walked ws bs low) (sym (take-map (λ (a : Assigned). a.comp) i xs)) ∙ walked-take ws bs low i (comps_in xs) ∙ ap (take i) h

-- the walk with one more competitor, from where it stands on
pub walked_split : (ws : List Window) (bs : List ℕ) (i : ℕ) (xs : List Assigned) (cs ds : List Comp) → xs ≡ walked ws bs 0 cs → walked ws bs 0 (take i cs ++ ds) ≡ take i xs ++ walked ws bs (low_behind (length bs) 0 (take i xs)) ds
walked_split ws bs i xs cs ds is =
    let front : walked ws bs 0 (take i cs) ≡ take i xs = walked-take ws bs 0 i cs ∙ sym (ap (take i) is) in
    walked-append ws bs 0 (take i cs) ds ∙ ap (λ ys. ys ++ walked ws bs (low_behind (length bs) 0 ys) ds) front

pub comps-drop : (i : ℕ) (xs : List Assigned) → comps_in (drop i xs) ≡ drop i (comps_in xs)
comps-drop zero xs = refl
comps-drop (suc i) [] = refl
comps-drop (suc i) (x ∷ xs) = comps-drop i xs

-- the same search over tests that agree on the range
pub find_agree : (p q : ℕ → Bool) (a n : ℕ) → ((j : ℕ) → a ≤ j → j < a + n → q j ≡ p j) → find q (range_with_len a n) ≡ find p (range_with_len a n)
find_agree p q a zero h = refl
find_agree p q a (suc n) h = λ i. cond (h a (omega arith) (omega arith) i) (Some a) (find_agree p q (a + 1) n (λ j low high. h j (omega (arith, low)) (omega (arith, high))) i)

-- and over tests that agree up to what is found
find_early : (p q : ℕ → Bool) (a n i : ℕ) → find p (range_with_len a n) ≡ Some i → ((j : ℕ) → j ≤ i → q j ≡ p j) → find q (range_with_len a n) ≡ Some i
find_early p q a zero i h agree = cc
find_early p q a (suc n) i h agree =
    let from : (a ≤ i) × (i < a + suc n) × (p i ≡ true) = find_from p a (suc n) i h in
    let same : q a ≡ p a = agree a from.0 in
    ap (λ b. cond b (Some a) (find q (range_with_len (a + 1) n))) same
    ∙ (elim (p a) as (λ b. p a ≡ b → cond b (Some a) (find p (range_with_len (a + 1) n)) ≡ Some i → cond b (Some a) (find q (range_with_len (a + 1) n)) ≡ Some i) [
      | true ↦ λ e f. f
      | false ↦ λ e f. find_early p q (a + 1) n i f agree
    ] refl h)

-- counts that say the same of every slot but one
pub record AgreeBut (bs ds : List ℕ) (k : ℕ) : Type 0 where
  pub size : length ds ≡ length bs
  pub clear : (j : ℕ) → (j ≡ k → ⊥) → is_clear ds j ≡ is_clear bs j

-- of every slot but this one, if it is one
abbrev pub AgreeAt : List ℕ → List ℕ → Option ℕ → Type 0
AgreeAt bs ds None = ds ≡ bs
AgreeAt bs ds (Some k) = AgreeBut bs ds k

-- places below that slot stay
pub clear_below : (bs ds : List ℕ) (k m i : ℕ) → AgreeBut bs ds k → clear_from bs m ≡ Some i → i < k → clear_from ds m ≡ Some i
clear_below bs ds k m i h found lt =
    ap (λ n. find (is_clear ds) (range_with_len m (n - m))) h.size
    ∙ find_early (is_clear bs) (is_clear ds) m (length bs - m) i found (λ j le. h.clear j (λ same. absurd (omega (arith, same, le, lt))))

below_from : (o : Option ℕ) (k : ℕ) → is_below k (place_from o) ≡ true → (i : ℕ) × (o ≡ Some i) × (i < k)
below_from None k h = cc
below_from (Some i) k h = (i, refl, ltb-true i k h)

asked_below : (bs ds : List ℕ) (k low : ℕ) (asked : Option ℕ) → AgreeBut bs ds k → is_below k (place_asked bs low asked) ≡ true → place_asked ds low asked ≡ place_asked bs low asked
asked_below bs ds k low None h below = refl
asked_below bs ds k low (Some asked) h below =
    let found : (i : ℕ) × (clear_from bs (max asked low) ≡ Some i) × (i < k) = below_from (clear_from bs (max asked low)) k below in
    ap place_from (clear_below bs ds k (max asked low) found.0 h found.1 found.2 ∙ sym found.1)

front_stays : (ws : List Window) (bs ds : List ℕ) (k low : ℕ) (cs : List Comp) → AgreeBut bs ds k →
    let xs : List Assigned = walked ws bs low cs in
    walked ws ds low (take (position_or_len (λ (a : Assigned). not (is_below k a.place)) xs) cs) ≡ take (position_or_len (λ (a : Assigned). not (is_below k a.place)) xs) xs
front_stays ws bs ds k low [] h = refl
front_stays ws bs ds k low (c ∷ cs) h =
    let place : Place = place_low ws bs low c.eto in
    let rest : List Assigned = walked ws bs (low_after (length bs) place) cs in
    let n : ℕ = position_or_len (λ (a : Assigned). not (is_below k a.place)) rest in
    let more : 1 + n ≡ suc n = omega arith in
    elim (is_below k place) as (λ b. is_below k place ≡ b → walked ws ds low (take (cond (not (not b)) (1 + n) 0) (c ∷ cs)) ≡ take (cond (not (not b)) (1 + n) 0) (record { comp = c; place = place } ∷ rest)) [
      | true ↦ λ below.
          let same : place_low ws ds low c.eto ≡ place = asked_below bs ds k low (wanted ws c.eto) h below in
          ap (λ m. walked ws ds low (take m (c ∷ cs))) more
          ∙ (λ i. record { comp = c; place = same i } ∷ walked ws ds (low_after (h.size i) (same i)) (take n cs))
          ∙ ap (λ (ys : List Assigned). record { comp = c; place = place } ∷ ys) (front_stays ws bs ds k (low_after (length bs) place) cs h)
          ∙ sym (ap (λ m. take m (record { comp = c; place = place } ∷ rest)) more)
      | false ↦ λ below. refl
    ] refl

-- places behind it stay too
asked_behind : (bs ds : List ℕ) (low : ℕ) (asked : Option ℕ) → length ds ≡ length bs → ((j : ℕ) → low ≤ j → j < length bs → is_clear ds j ≡ is_clear bs j) → place_asked ds low asked ≡ place_asked bs low asked
asked_behind bs ds low None size agree = refl
asked_behind bs ds low (Some asked) size agree =
    let m : ℕ = max asked low in
    ap place_from
    (ap (λ n. find (is_clear ds) (range_with_len m (n - m))) size
    ∙ find_agree (is_clear bs) (is_clear ds) m (length bs - m) (λ j at_least under. agree j (omega (arith, at_least)) (omega (arith, at_least, under))))

-- slots that are gone stay gone
pub low_rises : (bs : List ℕ) (low : ℕ) (asked : Option ℕ) (j : ℕ) → low_after (length bs) (place_asked bs low asked) ≤ j → j < length bs → low ≤ j
low_rises bs low None j le lt = absurd (omega (arith, le, lt))
low_rises bs low (Some asked) j le lt =
    elim (clear_from bs (max asked low)) as (λ (o : Option ℕ). clear_from bs (max asked low) ≡ o → low_after (length bs) (place_from o) ≤ j → low ≤ j) [
      | None ↦ λ e h. absurd (omega (arith, h, lt))
      | Some i ↦ λ e h.
          let m : ℕ = max asked low in
          let from : (m ≤ i) × (i < m + (length bs - m)) × (is_clear bs i ≡ true) = find_from (is_clear bs) m (length bs - m) i e in
          let under : i < length bs = omega (arith, from.0, from.1) in
          let above : i + 1 ≤ j = subst (λ n. n ≤ j) (after_slot (length bs) i under) h in
          let at_least : low ≤ m = omega arith in
          omega (arith, above, from.0, at_least)
    ] refl le

walked_behind : (ws : List Window) (bs ds : List ℕ) (low : ℕ) (cs : List Comp) → length ds ≡ length bs → ((j : ℕ) → low ≤ j → j < length bs → is_clear ds j ≡ is_clear bs j) → walked ws ds low cs ≡ walked ws bs low cs
walked_behind ws bs ds low [] size agree = refl
walked_behind ws bs ds low (c ∷ cs) size agree =
    let place : Place = place_low ws bs low c.eto in
    let same : place_low ws ds low c.eto ≡ place = asked_behind bs ds low (wanted ws c.eto) size agree in
    let next : ℕ = low_after (length bs) place in
    let rest : walked ws ds next cs ≡ walked ws bs next cs = walked_behind ws bs ds next cs size (λ j le lt. agree j (low_rises bs low (wanted ws c.eto) j le lt) lt) in
    (λ i. record { comp = c; place = same i } ∷ walked ws ds (low_after (size i) (same i)) cs)
    ∙ ap (λ (ys : List Assigned). record { comp = c; place = place } ∷ ys) rest

after_from : (n k : ℕ) (p : Place) → is_below k p ≡ false → (j : ℕ) → low_after n p ≤ j → j < n → k < j
after_from n k (Slot i) h j le lt =
    let at_least : k ≤ i = ltb-false i k h in
    elim (cases_lt i n) [
      | inl under ↦ let above : i + 1 ≤ j = subst (λ m. m ≤ j) (after_slot n i under) le in omega (arith, above, at_least)
      | inr beyond ↦ let all : n ≤ j = subst (λ m. m ≤ j) (ap (λ b. cond b (i + 1) n) (not_under i n beyond)) le in absurd (omega (arith, all, lt))
    ]
  where
    not_under : (i n : ℕ) → n ≤ i → nat_lt i n ≡ false
    not_under i n le =
        elim (nat_lt i n) as (λ b. nat_lt i n ≡ b → b ≡ false) [
          | true ↦ λ e. let lt : i < n = ltb-true i n e in absurd (omega (arith, lt, le))
          | false ↦ λ e. refl
        ] refl
after_from n k Over h j le lt = absurd (omega (arith, le, lt))

follow_agree : (ws : List Window) (bs ds : List ℕ) (k : ℕ) (xs : List Assigned) → AgreeBut bs ds k → FollowFirst ws bs (drop (position_or_len (λ (a : Assigned). not (is_below k a.place)) xs) xs) → FollowFirst ws ds (drop (position_or_len (λ (a : Assigned). not (is_below k a.place)) xs) xs)
follow_agree ws bs ds k [] h f = tt
follow_agree ws bs ds k (x ∷ xs) h f =
    let n : ℕ = position_or_len (λ (a : Assigned). not (is_below k a.place)) xs in
    let more : 1 + n ≡ suc n = omega arith in
    elim (is_below k x.place) as (λ b. is_below k x.place ≡ b → FollowFirst ws bs (drop (cond (not (not b)) (1 + n) 0) (x ∷ xs)) → FollowFirst ws ds (drop (cond (not (not b)) (1 + n) 0) (x ∷ xs))) [
      | true ↦ λ below g.
          let inner : FollowFirst ws bs (drop n xs) = subst (λ m. FollowFirst ws bs (drop m (x ∷ xs))) more g in
          subst (λ m. FollowFirst ws ds (drop m (x ∷ xs))) (sym more) (follow_agree ws bs ds k xs h inner)
      | false ↦ λ below g.
          let low : ℕ = low_after (length bs) x.place in
          ap (λ m. walked ws ds (low_after m x.place) (comps_in xs)) h.size
          ∙ walked_behind ws bs ds low (comps_in xs) h.size (λ j le lt. h.clear j (λ same. absurd (omega (arith, same, after_from (length bs) k x.place below j le lt))))
          ∙ g
    ] refl f

pub follow_changed : (ws : List Window) (bs ds : List ℕ) (slot : Option ℕ) (xs : List Assigned) (cs : List Comp) → AgreeAt bs ds slot → xs ≡ walked ws bs 0 cs → FollowFrom ws ds xs slot
follow_changed ws bs ds None xs cs h is = tt
follow_changed ws bs ds (Some k) xs cs h is =
    let at : position_or_len (λ (a : Assigned). not (is_below k a.place)) xs ≡ count_below xs k = sym (index_is (λ (a : Assigned). not (is_below k a.place)) xs) in
    let follow : FollowFirst ws bs xs = subst (λ ys. FollowFirst ws bs ys) (sym is) (follow_walked ws bs 0 cs) in
    let n : ℕ = position_or_len (λ (a : Assigned). not (is_below k a.place)) xs in
    subst (λ m. FollowFirst ws ds (drop m xs)) at (follow_agree ws bs ds k xs h (follow_drop ws bs n xs follow))

-- places rise along a walk: behind a place that is not below a slot no place is
asked_from : (bs : List ℕ) (k low : ℕ) (asked : Option ℕ) → ((j : ℕ) → low ≤ j → j < length bs → k ≤ j) → is_below k (place_asked bs low asked) ≡ false
asked_from bs k low None h = refl
asked_from bs k low (Some asked) h =
    elim (clear_from bs (max asked low)) as (λ (o : Option ℕ). clear_from bs (max asked low) ≡ o → is_below k (place_from o) ≡ false) [
      | None ↦ λ e. refl
      | Some i ↦ λ e.
          let m : ℕ = max asked low in
          let from : (m ≤ i) × (i < m + (length bs - m)) × (is_clear bs i ≡ true) = find_from (is_clear bs) m (length bs - m) i e in
          let at_least : low ≤ m = omega arith in
          let above : k ≤ i = h i (omega (arith, from.0, at_least)) (omega (arith, from.0, from.1)) in
          false_from_ne_true _ (λ below. let lt : i < k = ltb-true i k below in omega (arith, lt, above))
    ] refl

all_from : (ws : List Window) (bs : List ℕ) (k low : ℕ) (cs : List Comp) → ((j : ℕ) → low ≤ j → j < length bs → k ≤ j)
    → AllByRecursion (λ (a : Assigned). is_below k a.place ≡ false) (walked ws bs low cs)
all_from ws bs k low [] h = tt
all_from ws bs k low (c ∷ cs) h = (
  asked_from bs k low (wanted ws c.eto) h,
  all_from ws bs k (low_after (length bs) (place_low ws bs low c.eto)) cs (λ j le lt. h j (low_rises bs low (wanted ws c.eto) j le lt) lt),
)

each_then : {X : Type 0} (b : Bool) (P : X → Type 0) (xs : List X) → (b ≡ false → AllByRecursion P xs) → AllByRecursion (λ (x : X). b ≡ false → P x) xs
each_then b P [] h = tt
each_then b P (x ∷ xs) h = ((λ fails. (h fails).0), each_then b P xs (λ fails. (h fails).1))

pairs_rise : (ws : List Window) (bs : List ℕ) (k low : ℕ) (cs : List Comp)
    → PairsByRecursion (λ (a b : Assigned). is_below k a.place ≡ false → is_below k b.place ≡ false) (walked ws bs low cs)
pairs_rise ws bs k low [] = tt
pairs_rise ws bs k low (c ∷ cs) =
    let place : Place = place_low ws bs low c.eto in
    let next : ℕ = low_after (length bs) place in (
      each_then (is_below k place) (λ (a : Assigned). is_below k a.place ≡ false) (walked ws bs next cs)
          (λ fails. all_from ws bs k next cs (λ j le lt. let above : k < j = after_from (length bs) k place fails j le lt in omega (arith, above))),
      pairs_rise ws bs k next cs,
    )

pub walked_rise : (ws : List Window) (bs : List ℕ) (cs : List Comp) (xs : List Assigned) → xs ≡ walked ws bs 0 cs → PlacesRise xs
walked_rise ws bs cs xs are k =
    subst (λ ys. IsPartitionedBy (λ (a : Assigned). is_below k a.place) ys) (sym are)
    (parted (λ (a : Assigned). is_below k a.place) (walked ws bs 0 cs) (pairs_rise ws bs k 0 cs))

take-drop_comps : (i : ℕ) (cs : List Comp) → take i cs ++ drop i cs ≡ cs
take-drop_comps zero cs = refl
take-drop_comps (suc i) [] = refl
take-drop_comps (suc i) (c ∷ cs) = ap (λ ds. c ∷ ds) (take-drop_comps i cs)

pub walked_changed : (ws : List Window) (bs ds : List ℕ) (slot : Option ℕ) (xs : List Assigned) (cs : List Comp) → AgreeAt bs ds slot → xs ≡ walked ws bs 0 cs → walked_from_slot ws ds xs slot ≡ walked ws ds 0 cs
walked_changed ws bs ds None xs cs h is = is ∙ ap (λ es. walked ws es 0 cs) (sym h)
walked_changed ws bs ds (Some k) xs cs h is =
    let n : ℕ = position_or_len (λ (a : Assigned). not (is_below k a.place)) xs in
    let at : count_below xs k ≡ n = index_is (λ (a : Assigned). not (is_below k a.place)) xs in
    let front : walked ws ds 0 (take n cs) ≡ take n xs = subst (λ ys. walked ws ds 0 (take (position_or_len (λ (a : Assigned). not (is_below k a.place)) ys) cs) ≡ take (position_or_len (λ (a : Assigned). not (is_below k a.place)) ys) ys) (sym is) (front_stays ws bs ds k 0 cs h) in
    let comps : comps_in (drop n xs) ≡ drop n cs = comps-drop n xs ∙ ap (drop n) (ap comps_in is ∙ comps-walked ws bs 0 cs) in
    ap (λ m. take m xs ++ walked ws ds (low_behind (length ds) 0 (take m xs)) (comps_in (drop m xs))) at
    ∙ ap (λ es. take n xs ++ walked ws ds (low_behind (length ds) 0 (take n xs)) es) comps
    ∙ sym (ap (λ ys. ys ++ walked ws ds (low_behind (length ds) 0 ys) (drop n cs)) front)
    ∙ sym (walked-append ws ds 0 (take n cs) (drop n cs))
    ∙ ap (walked ws ds 0) (take-drop_comps n cs)

-- no place is beyond the last slot
pub within_asked : (bs : List ℕ) (low : ℕ) (asked : Option ℕ) → IsWithin (length bs) (place_asked bs low asked)
within_asked bs low None = tt
within_asked bs low (Some asked) =
    elim (clear_from bs (max asked low)) as (λ (o : Option ℕ). clear_from bs (max asked low) ≡ o → IsWithin (length bs) (place_from o)) [
      | None ↦ λ e. tt
      | Some i ↦ λ e. let from : (max asked low ≤ i) × (i < max asked low + (length bs - max asked low)) × (is_clear bs i ≡ true) = find_from (is_clear bs) (max asked low) (length bs - max asked low) i e in omega (arith, from.0, from.1)
    ] refl

pub within-walked : (ws : List Window) (bs : List ℕ) (low i : ℕ) (cs : List Comp) (a : Assigned) → slice_get (walked ws bs low cs) i ≡ Some a → IsWithin (length bs) a.place
within-walked ws bs low i [] a h = cc
within-walked ws bs low zero (c ∷ cs) a h =
    let same : place_low ws bs low c.eto ≡ a.place = cc in
    subst (λ (p : Place). IsWithin (length bs) p) same (within_asked bs low (wanted ws c.eto))
within-walked ws bs low (suc i) (c ∷ cs) a h = within-walked ws bs (low_after (length bs) (place_low ws bs low c.eto)) i cs a h
