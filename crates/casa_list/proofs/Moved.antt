-- competitors of whom one has left, and those behind it have moved up: where a flight goes among them
use Rattle.std.proofs.Common.{◌≡◌, ℕ, ◌+◌, ◌-◌, ◌<◌, ◌≤◌, List, [], ◌∷◌, ◌++◌, length, take, drop, Bool, true, false, not, refl, sym, ◌∙◌, ap, subst, arith, zero, suc, inl, inr, ◌⊎◌, cond, Option, None, Some}
use Rattle.std.specs.Option.{option_map_or}
use Rattle.std.specs.List.{position_or_len}
use Rattle.std.specs.List.Sorted.{IsPartitionedBy, IsSortedBy}
use Rattle.std.proofs.lemmas.Bool.{both_ways, cases_lt}
use Rattle.std.proofs.lemmas.List.{append-nil, drop_all, length-take-le, map-append, take-take, take-append-le, take_all, take-map}
use Rattle.std.proofs.Math.Seq.{take-append-add}
use Rattle.casa_grid.specs.declared.slot.Window.{Window}
use Rattle.casa_flight.specs.declared.comp.Comp.{Comp}
use Rattle.casa_flight.specs.declared.comp.Assigned.{Assigned}
use Rattle.casa_grid.specs.declared.slot.Place.TheVariants.{Over}
use Rattle.casa_flight.specs.Listing.{is_before}
use Rattle.casa_slots.specs.Walk.{low_behind, walked, followed, comps_in, count_below, FollowFirst, FollowFrom, walked_from_slot}
use Rattle.casa_slots.proofs.Found.{index_is}
use Rattle.casa_slots.proofs.Walked.{comps-walked, walked-take}
use Rattle.casa_list.proofs.Keeping.{index_of}
use Rattle.casa_list.proofs.Ordered.{position-mapped}
use Rattle.casa_list.proofs.Searched.{assigned_before, assigned_order, partitioned}

-- where those that pass a test come first: the first that does not, once one of them may have left
parted_tail : {X : Type 0} (p : X → Bool) (x : X) (xs : List X) → IsPartitionedBy p (x ∷ xs) → IsPartitionedBy p xs
parted_tail p x xs h = λ i j d le lt passes. h (suc i) (suc j) d (omega (arith, le)) (omega (arith, lt)) passes

abbrev first : {X : Type 0} → (X → Bool) → List X → ℕ
first p xs = position_or_len (λ x. not (p x)) xs

none_first : {X : Type 0} (p : X → Bool) (x : X) (xs : List X) → IsPartitionedBy p (x ∷ xs) → p x ≡ false → first p xs ≡ 0
none_first p x [] h fails = refl
none_first {X} p x (y ∷ xs) h fails =
    elim (p y) as (λ t. p y ≡ t → cond (not (not t)) (1 + first p xs) 0 ≡ 0) [
      | true ↦ λ e. absurd (both_ways _ fails (h 0 1 y (omega arith) (omega arith) e))
      | false ↦ λ e. refl
    ] refl

-- it stands where it stood, or as many earlier as have left
abbrev Moved : ℕ → ℕ → ℕ → ℕ → Type 0
Moved out behind n m = ((n ≤ out) × (m ≡ n)) ⊎ ((out < n) × (m ≡ out + (n - behind)))

first_moved : {X : Type 0} (p : X → Bool) (out behind : ℕ) (xs : List X) → IsPartitionedBy p xs → out ≤ behind → behind ≤ out + 1 → behind ≤ length xs → Moved out behind (first p xs) (first p (take out xs ++ drop behind xs))
first_moved p zero zero xs h le few within =
    elim (cases_lt 0 (first p xs)) [
      | inl lt ↦ inr (lt, omega arith)
      | inr at ↦ inl (at, refl)
    ]
first_moved p zero (suc behind) [] h le few within = absurd (omega (arith, within))
first_moved p zero (suc zero) (x ∷ xs) h le few within =
    elim (p x) as (λ t. p x ≡ t → Moved 0 1 (cond (not (not t)) (1 + first p xs) 0) (first p xs)) [
      | true ↦ λ e. inr (omega arith, omega arith)
      | false ↦ λ e. inl (omega arith, none_first p x xs h e)
    ] refl
first_moved p zero (suc (suc behind)) (x ∷ xs) h le few within = absurd (omega (arith, few))
first_moved p (suc out) zero xs h le few within = absurd (omega (arith, le))
first_moved p (suc out) (suc behind) [] h le few within = absurd (omega (arith, within))
first_moved {X} p (suc out) (suc behind) (x ∷ xs) h le few within =
    let n : ℕ = first p xs in
    let m : ℕ = first p (take out xs ++ drop behind xs) in
    elim (p x) as (λ t. p x ≡ t → Moved (suc out) (suc behind) (cond (not (not t)) (1 + n) 0) (cond (not (not t)) (1 + m) 0)) [
      | true ↦ λ e.
          elim (first_moved p out behind xs (parted_tail p x xs h) (omega (arith, le)) (omega (arith, few)) (omega (arith, within))) [
            | inl stays ↦ let le : n ≤ out = stays.0 in inl (omega (arith, le), ap (λ k. 1 + k) stays.1)
            | inr moves ↦
                let lt : out < n = moves.0 in
                let is : m ≡ out + (n - behind) = moves.1 in
                inr (omega (arith, lt), omega (arith, is, lt))
          ]
      | false ↦ λ e. inl (omega arith, refl)
    ] refl

-- so it is with competitors that have moved up
module _ (ws : List Window) (bs : List ℕ) (out behind : ℕ) (xs : List Assigned) (c : Comp) where
  abbrev moved : List Assigned
  moved = followed ws bs (take out xs) (comps_in (drop behind xs))

  abbrev before : Assigned → Bool
  before a = is_before a.comp c

  index_moved : index_of moved c ≡ first before (take out xs ++ drop behind xs)
  index_moved =
      let low : ℕ = low_behind (length bs) 0 (take out xs) in
      let same : comps_in moved ≡ comps_in (take out xs ++ drop behind xs) =
      map-append (λ (a : Assigned). a.comp) (take out xs) (walked ws bs low (comps_in (drop behind xs)))
      ∙ ap (λ cs. comps_in (take out xs) ++ cs) (comps-walked ws bs low (comps_in (drop behind xs)))
      ∙ sym (map-append (λ (a : Assigned). a.comp) (take out xs) (drop behind xs)) in
      index_is (λ (a : Assigned). not (before a)) moved
      ∙ sym (position-mapped (λ (a : Assigned). a.comp) (λ (d : Comp). not (is_before d c)) moved)
      ∙ ap (position_or_len (λ (d : Comp). not (is_before d c))) same
      ∙ position-mapped (λ (a : Assigned). a.comp) (λ (d : Comp). not (is_before d c)) (take out xs ++ drop behind xs)

  how_moved : IsSortedBy assigned_before xs → out ≤ behind → behind ≤ out + 1 → behind ≤ length xs → Moved out behind (index_of xs c) (index_of moved c)
  how_moved sorted le few within =
      subst (λ n. Moved out behind n (index_of moved c)) (sym (index_is (λ (a : Assigned). not (before a)) xs))
      (subst (Moved out behind (first before xs)) (sym index_moved)
      (first_moved before out behind xs (partitioned assigned_before assigned_order xs (record { comp = c; place = Over }) sorted) le few within))

  -- where it goes before the one that has left, those in front of it stand as they stood
  pub before_out : IsSortedBy assigned_before xs → out ≤ behind → behind ≤ out + 1 → behind ≤ length xs → index_of xs c ≤ out →
      take (index_of moved c) moved ≡ followed ws bs (take (index_of xs c) xs) (comps_in [])
  before_out sorted le few within first =
      let at : ℕ = index_of xs c in
      let same : index_of moved c ≡ at = elim (how_moved sorted le few within) [
        | inl stays ↦ stays.1
        | inr moves ↦ (let lt : out < at = moves.0 in absurd (omega (arith, lt, first)))
      ] in
      let long : length (take out xs) ≡ out = length-take-le out xs (omega (arith, le, within)) in
      ap (λ n. take n moved) same
      ∙ take-append-le at (take out xs) _ (omega (arith, long, first))
      ∙ take-take at out xs first
      ∙ sym (append-nil (take at xs))

  -- and else those between have moved up
  pub behind_out : IsSortedBy assigned_before xs → out ≤ behind → behind ≤ out + 1 → behind ≤ length xs → out < index_of xs c →
      take (index_of moved c) moved ≡ followed ws bs (take out xs) (comps_in (take (index_of xs c - behind) (drop behind xs)))
  behind_out sorted le few within later =
      let at : ℕ = index_of xs c in
      let low : ℕ = low_behind (length bs) 0 (take out xs) in
      let cs : List Comp = comps_in (drop behind xs) in
      let same : index_of moved c ≡ out + (at - behind) = elim (how_moved sorted le few within) [
        | inl stays ↦ (let first : at ≤ out = stays.0 in absurd (omega (arith, first, later)))
        | inr moves ↦ moves.1
      ] in
      let long : length (take out xs) ≡ out = length-take-le out xs (omega (arith, le, within)) in
      ap (λ n. take n moved) (same ∙ ap (λ n. n + (at - behind)) (sym long))
      ∙ take-append-add (take out xs) (walked ws bs low cs) (at - behind)
      ∙ ap (λ ys. take out xs ++ ys) (sym (walked-take ws bs low (at - behind) cs) ∙ ap (walked ws bs low) (take-map (λ (a : Assigned). a.comp) (at - behind) (drop behind xs)))

-- from where on places can change with the number of flights in a slot
abbrev pub first_from : List Assigned → Option ℕ → ℕ
first_from xs slot = option_map_or (count_below xs) slot (length xs)

pub moved_from_slot : (ws : List Window) (bs : List ℕ) (xs : List Assigned) (slot : Option ℕ) → followed ws bs (take (first_from xs slot) xs) (comps_in (drop (first_from xs slot) xs)) ≡ walked_from_slot ws bs xs slot
moved_from_slot ws bs xs None =
    let n : ℕ = length xs in
    (λ i. followed ws bs (take_all n xs (omega arith) i) (comps_in (drop_all n xs (omega arith) i))) ∙ append-nil xs
moved_from_slot ws bs xs (Some k) = refl

pub follow_from_slot : (ws : List Window) (bs : List ℕ) (xs : List Assigned) (slot : Option ℕ) → FollowFrom ws bs xs slot → FollowFirst ws bs (drop (first_from xs slot) xs)
follow_from_slot ws bs xs None h = subst (λ ys. FollowFirst ws bs ys) (sym (drop_all (length xs) xs (omega arith))) tt
follow_from_slot ws bs xs (Some k) h = h
