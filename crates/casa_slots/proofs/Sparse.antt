-- the numbers of flights that block slots, where only the blocked slots are kept
use Rattle.std.proofs.Common.{◌≡◌, ◌==◌, ℕ, ◌+◌, ◌-◌, ◌<◌, ◌≤◌, List, [], ◌∷◌, length, drop, get_or, set, map, Bool, true, false, nat_lt, refl, sym, ◌∙◌, ap, subst, arith, zero, suc, cond, Option, None, Some, inl, inr, ◌⊎◌, replicate, sum}
use Rattle.std.specs.Option.{option_map_or}
use Rattle.std.specs.Bool.{then_some}
use Rattle.std.specs.List.{AllByRecursion, find, insert, range_with_len, remove, slice_get, slice_set}
use Rattle.std.proofs.lemmas.Bool.{cases_lt, eqb-true, eq-eqb, ne_eqb, ltb-true, le-ltb, lt-ltb, both_ways}
use Rattle.std.proofs.lemmas.List.Sums.{sum_by-cons, prefix_len-le-length}
use Rattle.std.proofs.lemmas.List.FromFn.{length-map-range_with_len, get_or-map-range_with_len}
use Rattle.std.proofs.lemmas.Option.{slice_get-get_or, slice_get_past, same_Some}
use Rattle.std.specs.List.Sorted.{IsPartitionedBy}
use Rattle.casa_slots.specs.Blocked.{raised, lowered}
use Rattle.casa_slots.specs.Sparse.{count_in, dense, AreBlocked, count_before, passed, put_one, take_one}
use Rattle.casa_slots.specs.Walk.{is_clear, clear_from}

pub length-dense : (n : ℕ) (es : List (ℕ × ℕ)) → length (dense n es) ≡ n
length-dense n es = length-map-range_with_len (λ k. count_in es k) 0 n

pub get_dense : (n : ℕ) (es : List (ℕ × ℕ)) (k : ℕ) → k < n → slice_get (dense n es) k ≡ Some (count_in es k)
get_dense n es k lt =
    let size : length (dense n es) ≡ n = length-dense n es in
    slice_get-get_or (dense n es) k 0 (omega (arith, size, lt))
    ∙ ap Some (get_or-map-range_with_len (λ j. count_in es j) 0 n k k 0 lt (omega arith))

pub clear_dense : (n : ℕ) (es : List (ℕ × ℕ)) (k : ℕ) → k < n → is_clear (dense n es) k ≡ (count_in es k == 0)
clear_dense n es k lt = ap (λ o. option_map_or (λ (m : ℕ). m == 0) o false) (get_dense n es k lt)

-- where slots of these go on from, none lies before
blocked_from : (low more n : ℕ) (es : List (ℕ × ℕ)) → more ≤ low → AreBlocked low n es → AreBlocked more n es
blocked_from low more n [] le h = tt
blocked_from low more n (e ∷ es) le h = (let from : low ≤ e.0 = h.0 in omega (arith, from, le), h.1, h.2, h.3)

count_head : (e : ℕ × ℕ) (es : List (ℕ × ℕ)) (k : ℕ) → e.0 ≡ k → count_in (e ∷ es) k ≡ e.1
count_head e es k is = ap (λ b. cond b e.1 (count_in es k)) (eq-eqb e.0 k is)

count_tail : (e : ℕ × ℕ) (es : List (ℕ × ℕ)) (k : ℕ) → (e.0 ≡ k → ⊥) → count_in (e ∷ es) k ≡ count_in es k
count_tail e es k other = ap (λ b. cond b e.1 (count_in es k)) (ne_eqb e.0 k other)

none_below : (low n : ℕ) (es : List (ℕ × ℕ)) (k : ℕ) → AreBlocked low n es → k < low → count_in es k ≡ 0
none_below low n [] k h lt = refl
none_below low n (e ∷ es) k h lt =
    let from : low ≤ e.0 = h.0 in
    count_tail e es k (λ same. omega (arith, same, from, lt)) ∙ none_below (e.0 + 1) n es k h.3 (omega (arith, from, lt))

none_beyond : (low n : ℕ) (es : List (ℕ × ℕ)) (k : ℕ) → AreBlocked low n es → n ≤ k → count_in es k ≡ 0
none_beyond low n [] k h le = refl
none_beyond low n (e ∷ es) k h le =
    let under : e.0 < n = h.1 in
    count_tail e es k (λ same. omega (arith, same, under, le)) ∙ none_beyond (e.0 + 1) n es k h.3 le

-- how the tests on a slot go
abbrev Before : ℕ → ℕ → Type 0
Before e k = (e < k) × (nat_lt e k ≡ true)

abbrev Here : ℕ → ℕ → Type 0
Here e k = (e ≡ k) × (nat_lt e k ≡ false) × ((e == k) ≡ true)

abbrev Behind : ℕ → ℕ → Type 0
Behind e k = (k < e) × (nat_lt e k ≡ false) × ((e == k) ≡ false)

stands : (e k : ℕ) → Before e k ⊎ (Here e k ⊎ Behind e k)
stands e k =
    elim (cases_lt e k) [
      | inl lt ↦ inl (lt, lt-ltb e k lt)
      | inr le ↦ inr (elim (cases_lt k e) [
        | inl gt ↦ inr (gt, le-ltb e k le, ne_eqb e k (λ same. omega (arith, same, gt)))
        | inr ge ↦ let same : e ≡ k = omega (arith, le, ge) in inl (same, le-ltb e k le, eq-eqb e k same)
      ])
    ]

-- what is chosen by these tests
first : {X : Type 0} (e k : ℕ) (a b c : X) → Before e k → cond (nat_lt e k) a (cond (e == k) b c) ≡ a
first e k a b c h = ap (λ t. cond t a (cond (e == k) b c)) h.1

second : {X : Type 0} (e k : ℕ) (a b c : X) → Here e k → cond (nat_lt e k) a (cond (e == k) b c) ≡ b
second e k a b c h = ap (λ t. cond t a (cond (e == k) b c)) h.1 ∙ ap (λ t. cond t b c) h.2

third : {X : Type 0} (e k : ℕ) (a b c : X) → Behind e k → cond (nat_lt e k) a (cond (e == k) b c) ≡ c
third e k a b c h = ap (λ t. cond t a (cond (e == k) b c)) h.1 ∙ ap (λ t. cond t b c) h.2

-- a clear slot is where the look for one ends
passed_clear : (low n : ℕ) (es : List (ℕ × ℕ)) (k : ℕ) → AreBlocked low n es → count_in es k ≡ 0 → passed es k ≡ k
passed_clear low n [] k h none = refl
passed_clear low n (e ∷ es) k h none =
    elim (stands e.0 k) [
      | inl b ↦
          let other : (e.0 ≡ k → ⊥) = λ same. (let lt : e.0 < k = b.0 in omega (arith, same, lt)) in
          first e.0 k (passed es k) (passed es (k + 1)) k b ∙ passed_clear (e.0 + 1) n es k h.3 (sym (count_tail e es k other) ∙ none)
      | inr o ↦ elim o [
        | inl m ↦ absurd (let some : 0 < e.1 = h.2 in let zero_is : e.1 ≡ 0 = sym (count_head e es k m.0) ∙ none in omega (arith, some, zero_is))
        | inr a ↦ third e.0 k (passed es k) (passed es (k + 1)) k a
      ]
    ]

-- from a blocked slot it goes on
passed_blocked : (low n : ℕ) (es : List (ℕ × ℕ)) (k : ℕ) → AreBlocked low n es → 0 < count_in es k → passed es k ≡ passed es (k + 1)
passed_blocked low n [] k h some = absurd (omega (arith, some))
passed_blocked low n (e ∷ es) k h some =
    elim (stands e.0 k) [
      | inl b ↦
          let lt : e.0 < k = b.0 in
          let next : Before e.0 (k + 1) = (omega (arith, lt), lt-ltb e.0 (k + 1) (omega (arith, lt))) in
          let rest : 0 < count_in es k = subst (λ m. 0 < m) (count_tail e es k (λ same. omega (arith, same, lt))) some in
          first e.0 k (passed es k) (passed es (k + 1)) k b
          ∙ passed_blocked (e.0 + 1) n es k h.3 rest
          ∙ sym (first e.0 (k + 1) (passed es (k + 1)) (passed es (k + 1 + 1)) (k + 1) next)
      | inr o ↦ elim o [
        | inl m ↦
            let is : e.0 ≡ k = m.0 in
            let next : Before e.0 (k + 1) = (omega (arith, is), lt-ltb e.0 (k + 1) (omega (arith, is))) in
            second e.0 k (passed es k) (passed es (k + 1)) k m
            ∙ sym (first e.0 (k + 1) (passed es (k + 1)) (passed es (k + 1 + 1)) (k + 1) next)
        | inr a ↦ absurd (
            let gt : k < e.0 = a.0 in
            let none : count_in (e ∷ es) k ≡ 0 =
            count_tail e es k (λ same. omega (arith, same, gt)) ∙ none_below (e.0 + 1) n es k h.3 (omega (arith, gt)) in
            omega (arith, none, some))
      ]
    ]

passed_from : (es : List (ℕ × ℕ)) (k : ℕ) → k ≤ passed es k
passed_from [] k = omega arith
passed_from (e ∷ es) k =
    elim (stands e.0 k) [
      | inl b ↦ subst (λ m. k ≤ m) (sym (first e.0 k (passed es k) (passed es (k + 1)) k b)) (passed_from es k)
      | inr o ↦ elim o [
        | inl m ↦ subst (λ j. k ≤ j) (sym (second e.0 k (passed es k) (passed es (k + 1)) k m)) (let later : k + 1 ≤ passed es (k + 1) = passed_from es (k + 1) in omega (arith, later))
        | inr a ↦ subst (λ m. k ≤ m) (sym (third e.0 k (passed es k) (passed es (k + 1)) k a)) (omega arith)
      ]
    ]

-- so it gives the first clear slot
found_from : (n : ℕ) (es : List (ℕ × ℕ)) (k m : ℕ) → AreBlocked 0 n es → k + m ≡ n →
    find (is_clear (dense n es)) (range_with_len k m) ≡ cond (nat_lt (passed es k) n) (Some (passed es k)) None
found_from n es k zero h size =
    let from : k ≤ passed es k = passed_from es k in
    ap (λ b. cond b (Some (passed es k)) None) (sym (le-ltb (passed es k) n (omega (arith, from, size))))
found_from n es k (suc m) h size =
    let under : k < n = omega (arith, size) in
    let test : is_clear (dense n es) k ≡ (count_in es k == 0) = clear_dense n es k under in
    let later : Option ℕ = find (is_clear (dense n es)) (range_with_len (k + 1) m) in
    elim (cases_lt 0 (count_in es k)) [
      | inl some ↦
          ap (λ b. cond b (Some k) later) (test ∙ ne_eqb (count_in es k) 0 (λ same. omega (arith, same, some)))
          ∙ found_from n es (k + 1) m h (omega (arith, size))
          ∙ ap (λ j. cond (nat_lt j n) (Some j) None) (sym (passed_blocked 0 n es k h some))
      | inr none ↦
          let zero_is : count_in es k ≡ 0 = omega (arith, none) in
          let here : passed es k ≡ k = passed_clear 0 n es k h zero_is in
          ap (λ b. cond b (Some k) later) (test ∙ eq-eqb (count_in es k) 0 zero_is)
          ∙ ap (λ b. cond b (Some k) None) (sym (lt-ltb k n under))
          ∙ ap (λ j. cond (nat_lt j n) (Some j) None) (sym here)
    ]

pub clear_found : (n : ℕ) (es : List (ℕ × ℕ)) (k : ℕ) → AreBlocked 0 n es → k ≤ n →
    cond (nat_lt (passed es k) n) (Some (passed es k)) None ≡ clear_from (dense n es) k
clear_found n es k h le =
    let size : length (dense n es) ≡ n = length-dense n es in
    sym (ap (λ m. find (is_clear (dense n es)) (range_with_len k (m - k))) size ∙ found_from n es k (n - k) h (omega (arith, le)))

-- a table of numbers with another one at one place
same_beyond : (f g : ℕ → ℕ) (k a n : ℕ) → ((j : ℕ) → (j ≡ k → ⊥) → g j ≡ f j) → k < a → map g (range_with_len a n) ≡ map f (range_with_len a n)
same_beyond f g k a zero others lt = refl
same_beyond f g k a (suc n) others lt =
    λ i. others a (λ same. omega (arith, same, lt)) i ∷ same_beyond f g k (a + 1) n others (omega (arith, lt)) i

table_set : (f g : ℕ → ℕ) (k v a n i : ℕ) → ((j : ℕ) → (j ≡ k → ⊥) → g j ≡ f j) → g k ≡ v → a + i ≡ k →
    map g (range_with_len a n) ≡ slice_set (map f (range_with_len a n)) i v
table_set f g k v a zero i others here at = refl
table_set f g k v a (suc n) zero others here at =
    let is : a ≡ k = omega (arith, at) in
    λ j. (ap g is ∙ here) j ∷ same_beyond f g k (a + 1) n others (omega (arith, is)) j
table_set f g k v a (suc n) (suc i) others here at =
    λ j. others a (λ same. omega (arith, same, at)) j ∷ table_set f g k v (a + 1) n i others here (omega (arith, at)) j

-- one flight more in a slot
put_here : (low n : ℕ) (es : List (ℕ × ℕ)) (k : ℕ) → AreBlocked low n es → count_in (put_one es k) k ≡ count_in es k + 1
put_here low n [] k h = count_head (k, 1) [] k refl
put_here low n (e ∷ es) k h =
    elim (stands e.0 k) [
      | inl b ↦
          let lt : e.0 < k = b.0 in
          ap (λ fs. count_in fs k) (first e.0 k (e ∷ put_one es k) ((k, e.1 + 1) ∷ es) ((k, 1) ∷ e ∷ es) b)
          ∙ count_tail e (put_one es k) k (λ same. omega (arith, same, lt))
          ∙ put_here (e.0 + 1) n es k h.3
          ∙ ap (λ m. m + 1) (sym (count_tail e es k (λ same. omega (arith, same, lt))))
      | inr o ↦ elim o [
        | inl m ↦
            ap (λ fs. count_in fs k) (second e.0 k (e ∷ put_one es k) ((k, e.1 + 1) ∷ es) ((k, 1) ∷ e ∷ es) m)
            ∙ count_head (k, e.1 + 1) es k refl
            ∙ ap (λ c. c + 1) (sym (count_head e es k m.0))
        | inr a ↦
            let gt : k < e.0 = a.0 in
            let none : count_in (e ∷ es) k ≡ 0 = count_tail e es k (λ same. omega (arith, same, gt)) ∙ none_below (e.0 + 1) n es k h.3 (omega (arith, gt)) in
            ap (λ fs. count_in fs k) (third e.0 k (e ∷ put_one es k) ((k, e.1 + 1) ∷ es) ((k, 1) ∷ e ∷ es) a)
            ∙ count_head (k, 1) (e ∷ es) k refl
            ∙ ap (λ c. c + 1) (sym none)
      ]
    ]

-- the other slots stay
count_both : (e : ℕ × ℕ) (es fs : List (ℕ × ℕ)) (j : ℕ) → count_in es j ≡ count_in fs j → count_in (e ∷ es) j ≡ count_in (e ∷ fs) j
count_both e es fs j same = ap (λ m. cond (e.0 == j) e.1 m) same

put_others : (es : List (ℕ × ℕ)) (k j : ℕ) → (j ≡ k → ⊥) → count_in (put_one es k) j ≡ count_in es j
put_others [] k j other = count_tail (k, 1) [] j (λ same. other (sym same))
put_others (e ∷ es) k j other =
    elim (stands e.0 k) [
      | inl b ↦
          ap (λ fs. count_in fs j) (first e.0 k (e ∷ put_one es k) ((k, e.1 + 1) ∷ es) ((k, 1) ∷ e ∷ es) b)
          ∙ count_both e (put_one es k) es j (put_others es k j other)
      | inr o ↦ elim o [
        | inl m ↦
            ap (λ fs. count_in fs j) (second e.0 k (e ∷ put_one es k) ((k, e.1 + 1) ∷ es) ((k, 1) ∷ e ∷ es) m)
            ∙ count_tail (k, e.1 + 1) es j (λ same. other (sym same))
            ∙ sym (count_tail e es j (λ same. other (sym same ∙ m.0)))
        | inr a ↦
            ap (λ fs. count_in fs j) (third e.0 k (e ∷ put_one es k) ((k, e.1 + 1) ∷ es) ((k, 1) ∷ e ∷ es) a)
            ∙ count_tail (k, 1) (e ∷ es) j (λ same. other (sym same))
      ]
    ]

pub put_blocked : (low n : ℕ) (es : List (ℕ × ℕ)) (k : ℕ) → low ≤ k → k < n → AreBlocked low n es → AreBlocked low n (put_one es k)
put_blocked low n [] k le lt h = (le, lt, omega arith, tt)
put_blocked low n (e ∷ es) k le lt h =
    elim (stands e.0 k) [
      | inl b ↦ subst (AreBlocked low n) (sym (first e.0 k (e ∷ put_one es k) ((k, e.1 + 1) ∷ es) ((k, 1) ∷ e ∷ es) b))
          (h.0, h.1, h.2, put_blocked (e.0 + 1) n es k (let before : e.0 < k = b.0 in omega (arith, before)) lt h.3)
      | inr o ↦ elim o [
        | inl m ↦ subst (AreBlocked low n) (sym (second e.0 k (e ∷ put_one es k) ((k, e.1 + 1) ∷ es) ((k, 1) ∷ e ∷ es) m))
            (le, lt, omega arith, subst (λ i. AreBlocked (i + 1) n es) m.0 h.3)
        | inr a ↦ subst (AreBlocked low n) (sym (third e.0 k (e ∷ put_one es k) ((k, e.1 + 1) ∷ es) ((k, 1) ∷ e ∷ es) a))
            (le, lt, omega arith, (let gt : k < e.0 = a.0 in omega (arith, gt), h.1, h.2, h.3))
      ]
    ]

pub dense_raised : (n : ℕ) (es : List (ℕ × ℕ)) (k : ℕ) → AreBlocked 0 n es → k < n → dense n (put_one es k) ≡ raised (dense n es) (Some k)
dense_raised n es k h lt =
    let value : count_in (put_one es k) k ≡ option_map_or (λ (m : ℕ). m + 1) (slice_get (dense n es) k) 0 =
    put_here 0 n es k h ∙ ap (λ o. option_map_or (λ (m : ℕ). m + 1) o 0) (sym (get_dense n es k lt)) in
    table_set (λ j. count_in es j) (λ j. count_in (put_one es k) j) k _ 0 n k (λ j other. put_others es k j other) value (omega arith)

-- a slot that there is not
set_past : (bs : List ℕ) (k v : ℕ) → length bs ≤ k → slice_set bs k v ≡ bs
set_past [] k v le = refl
set_past (b ∷ bs) zero v le = absurd (omega (arith, le))
set_past (b ∷ bs) (suc k) v le = ap (λ cs. b ∷ cs) (set_past bs k v (omega (arith, le)))

pub raised_past : (n : ℕ) (es : List (ℕ × ℕ)) (k : ℕ) → n ≤ k → dense n es ≡ raised (dense n es) (Some k)
raised_past n es k le = let size : length (dense n es) ≡ n = length-dense n es in sym (set_past (dense n es) k _ (omega (arith, size, le)))

pub lowered_past : (n : ℕ) (es : List (ℕ × ℕ)) (k : ℕ) → n ≤ k → dense n es ≡ lowered (dense n es) (Some k)
lowered_past n es k le = let size : length (dense n es) ≡ n = length-dense n es in sym (set_past (dense n es) k _ (omega (arith, size, le)))

-- one flight less in a slot
take_here : (low n : ℕ) (es : List (ℕ × ℕ)) (k : ℕ) → AreBlocked low n es → count_in (take_one es k) k ≡ count_in es k - 1
take_here low n [] k h = refl
take_here low n (e ∷ es) k h =
    let less : List (ℕ × ℕ) = cond (e.1 == 1) es ((k, e.1 - 1) ∷ es) in
    elim (stands e.0 k) [
      | inl b ↦
          let lt : e.0 < k = b.0 in
          ap (λ fs. count_in fs k) (first e.0 k (e ∷ take_one es k) less (e ∷ es) b)
          ∙ count_tail e (take_one es k) k (λ same. omega (arith, same, lt))
          ∙ take_here (e.0 + 1) n es k h.3
          ∙ ap (λ m. m - 1) (sym (count_tail e es k (λ same. omega (arith, same, lt))))
      | inr o ↦ elim o [
        | inl m ↦
            let is : e.0 ≡ k = m.0 in
            let none : count_in es k ≡ 0 = none_below (e.0 + 1) n es k h.3 (omega (arith, is)) in
            ap (λ fs. count_in fs k) (second e.0 k (e ∷ take_one es k) less (e ∷ es) m)
            ∙ (elim (e.1 == 1) as (λ t. (e.1 == 1) ≡ t → count_in (cond t es ((k, e.1 - 1) ∷ es)) k ≡ e.1 - 1) [
              | true ↦ λ t. none ∙ (let one : e.1 ≡ 1 = eqb-true e.1 1 t in omega (arith, one))
              | false ↦ λ t. count_head (k, e.1 - 1) es k refl
            ] refl)
            ∙ ap (λ c. c - 1) (sym (count_head e es k is))
        | inr a ↦
            let gt : k < e.0 = a.0 in
            let none : count_in (e ∷ es) k ≡ 0 = count_tail e es k (λ same. omega (arith, same, gt)) ∙ none_below (e.0 + 1) n es k h.3 (omega (arith, gt)) in
            ap (λ fs. count_in fs k) (third e.0 k (e ∷ take_one es k) less (e ∷ es) a)
            ∙ none ∙ ap (λ c. c - 1) (sym none)
      ]
    ]

take_others : (low n : ℕ) (es : List (ℕ × ℕ)) (k j : ℕ) → (j ≡ k → ⊥) → count_in (take_one es k) j ≡ count_in es j
take_others low n [] k j other = refl
take_others low n (e ∷ es) k j other =
    let less : List (ℕ × ℕ) = cond (e.1 == 1) es ((k, e.1 - 1) ∷ es) in
    elim (stands e.0 k) [
      | inl b ↦
          ap (λ fs. count_in fs j) (first e.0 k (e ∷ take_one es k) less (e ∷ es) b)
          ∙ count_both e (take_one es k) es j (take_others low n es k j other)
      | inr o ↦ elim o [
        | inl m ↦
            let away : count_in (e ∷ es) j ≡ count_in es j = count_tail e es j (λ same. other (sym same ∙ m.0)) in
            ap (λ fs. count_in fs j) (second e.0 k (e ∷ take_one es k) less (e ∷ es) m)
            ∙ (elim (e.1 == 1) as (λ t. count_in (cond t es ((k, e.1 - 1) ∷ es)) j ≡ count_in es j) [
              | true ↦ refl
              | false ↦ count_tail (k, e.1 - 1) es j (λ same. other (sym same))
            ])
            ∙ sym away
        | inr a ↦ ap (λ fs. count_in fs j) (third e.0 k (e ∷ take_one es k) less (e ∷ es) a)
      ]
    ]

pub take_blocked : (low n : ℕ) (es : List (ℕ × ℕ)) (k : ℕ) → AreBlocked low n es → AreBlocked low n (take_one es k)
take_blocked low n [] k h = tt
take_blocked low n (e ∷ es) k h =
    let less : List (ℕ × ℕ) = cond (e.1 == 1) es ((k, e.1 - 1) ∷ es) in
    elim (stands e.0 k) [
      | inl b ↦ subst (AreBlocked low n) (sym (first e.0 k (e ∷ take_one es k) less (e ∷ es) b)) (h.0, h.1, h.2, take_blocked (e.0 + 1) n es k h.3)
      | inr o ↦ elim o [
        | inl m ↦
            let is : e.0 ≡ k = m.0 in
            let from : low ≤ e.0 = h.0 in
            let under : e.0 < n = h.1 in
            let some : 0 < e.1 = h.2 in
            subst (AreBlocked low n) (sym (second e.0 k (e ∷ take_one es k) less (e ∷ es) m))
            (elim (e.1 == 1) as (λ t. (e.1 == 1) ≡ t → AreBlocked low n (cond t es ((k, e.1 - 1) ∷ es))) [
              | true ↦ λ t. blocked_from (e.0 + 1) low n es (omega (arith, from)) h.3
              | false ↦ λ t. (
                omega (arith, is, from),
                omega (arith, is, under),
                let more : (e.1 ≡ 1 → ⊥) = λ one. both_ways _ t (eq-eqb e.1 1 one) in above e.1 some more,
                subst (λ i. AreBlocked (i + 1) n es) is h.3,
              )
            ] refl)
        | inr a ↦ subst (AreBlocked low n) (sym (third e.0 k (e ∷ take_one es k) less (e ∷ es) a)) h
      ]
    ]
  where
    above : (c : ℕ) → 0 < c → (c ≡ 1 → ⊥) → 0 < c - 1
    above c some more = elim (cases_lt 1 c) [
      | inl lt ↦ omega (arith, lt)
      | inr le ↦ absurd (more (omega (arith, le, some)))
    ]

pub dense_lowered : (n : ℕ) (es : List (ℕ × ℕ)) (k : ℕ) → AreBlocked 0 n es → k < n → dense n (take_one es k) ≡ lowered (dense n es) (Some k)
dense_lowered n es k h lt =
    let value : count_in (take_one es k) k ≡ option_map_or (λ (m : ℕ). m - 1) (slice_get (dense n es) k) 0 =
    take_here 0 n es k h ∙ ap (λ o. option_map_or (λ (m : ℕ). m - 1) o 0) (sym (get_dense n es k lt)) in
    table_set (λ j. count_in es j) (λ j. count_in (take_one es k) j) k _ 0 n k (λ j other. take_others 0 n es k j other) value (omega arith)

pub sum-cons : (n : ℕ) (ns : List ℕ) → sum (n ∷ ns) ≡ n + sum ns
sum-cons n ns = sum_by-cons (λ (m : ℕ). m) n ns

-- there are no more blocked slots than flights that block them
sum_same : (f g : ℕ → ℕ) (a n : ℕ) → ((j : ℕ) → a ≤ j → g j ≡ f j) → map g (range_with_len a n) ≡ map f (range_with_len a n)
sum_same f g a zero h = refl
sum_same f g a (suc n) h = λ i. h a (omega arith) i ∷ sum_same f g (a + 1) n (λ j le. h j (omega (arith, le))) i

blocks_few : (n a m : ℕ) (es : List (ℕ × ℕ)) → a + m ≡ n → AreBlocked a n es → length es ≤ sum (map (λ k. count_in es k) (range_with_len a m))
blocks_few n a m [] size h = omega arith
blocks_few n a zero (e ∷ es) size h = let from : a ≤ e.0 = h.0 in let under : e.0 < n = h.1 in absurd (omega (arith, size, from, under))
blocks_few n a (suc m) (e ∷ es) size h =
    let from : a ≤ e.0 = h.0 in
    let some : 0 < e.1 = h.2 in
    elim (cases_lt a e.0) [
      | inl lt ↦
          let rest : length (e ∷ es) ≤ sum (map (λ k. count_in (e ∷ es) k) (range_with_len (a + 1) m)) =
          blocks_few n (a + 1) m (e ∷ es) (omega (arith, size)) (omega (arith, lt), h.1, h.2, h.3) in
          let all : sum (map (λ k. count_in (e ∷ es) k) (range_with_len a (suc m))) ≡ count_in (e ∷ es) a + sum (map (λ k. count_in (e ∷ es) k) (range_with_len (a + 1) m)) =
          sum-cons (count_in (e ∷ es) a) (map (λ k. count_in (e ∷ es) k) (range_with_len (a + 1) m)) in
          omega (arith, rest, all)
      | inr le ↦
          let is : e.0 ≡ a = omega (arith, from, le) in
          let later : AreBlocked (a + 1) n es = subst (λ i. AreBlocked (i + 1) n es) is h.3 in
          let rest : length es ≤ sum (map (λ k. count_in es k) (range_with_len (a + 1) m)) = blocks_few n (a + 1) m es (omega (arith, size)) later in
          let here : count_in (e ∷ es) a ≡ e.1 = count_head e es a is in
          let same : map (λ k. count_in (e ∷ es) k) (range_with_len (a + 1) m) ≡ map (λ k. count_in es k) (range_with_len (a + 1) m) =
          sum_same (λ k. count_in es k) (λ k. count_in (e ∷ es) k) (a + 1) m (λ j ge. count_tail e es j (λ eq. omega (arith, eq, is, ge))) in
          let sums : sum (map (λ k. count_in (e ∷ es) k) (range_with_len (a + 1) m)) ≡ sum (map (λ k. count_in es k) (range_with_len (a + 1) m)) = ap sum same in
          let all : sum (map (λ k. count_in (e ∷ es) k) (range_with_len a (suc m))) ≡ count_in (e ∷ es) a + sum (map (λ k. count_in (e ∷ es) k) (range_with_len (a + 1) m)) =
          sum-cons (count_in (e ∷ es) a) (map (λ k. count_in (e ∷ es) k) (range_with_len (a + 1) m)) in
          omega (arith, rest, here, sums, some, all)
    ]

pub blocks_sum : (n : ℕ) (es : List (ℕ × ℕ)) → AreBlocked 0 n es → length es ≤ sum (dense n es)
blocks_sum n es h = blocks_few n 0 n es (omega arith) h

-- a table of which all is small
pub small_at : (m n : ℕ) (es : List (ℕ × ℕ)) (k : ℕ) → AllByRecursion (λ (c : ℕ). c < m) (dense n es) → k < n → count_in es k < m
small_at m n es k all lt = small_from 0 n k all (omega arith) (omega (arith, lt))
  where
    small_from : (a n k : ℕ) → AllByRecursion (λ (c : ℕ). c < m) (map (λ j. count_in es j) (range_with_len a n)) → a ≤ k → k < a + n → count_in es k < m
    small_from a zero k all le lt = absurd (omega (arith, le, lt))
    small_from a (suc n) k all le lt =
        elim (cases_lt a k) [
          | inl later ↦ small_from (a + 1) n k all.1 (omega (arith, later)) (omega (arith, lt))
          | inr here ↦ let is : a ≡ k = omega (arith, here, le) in subst (λ j. count_in es j < m) is all.0
        ]

-- where no slot is blocked
pub dense_none : (n : ℕ) (es : List (ℕ × ℕ)) → es ≡ [] → dense n es ≡ replicate n 0
dense_none n es none = ap (dense n) none ∙ zeros 0 n
  where
    zeros : (a n : ℕ) → map (λ k. count_in [] k) (range_with_len a n) ≡ replicate n 0
    zeros a zero = refl
    zeros a (suc n) = ap (λ ms. 0 ∷ ms) (zeros (a + 1) n)

pub none_blocked : (n : ℕ) (es : List (ℕ × ℕ)) → es ≡ [] → AreBlocked 0 n es
none_blocked n es none = subst (AreBlocked 0 n) (sym none) tt

-- slots of blocks rise, so a search finds where one stands or goes
slots_after : (low n : ℕ) (es : List (ℕ × ℕ)) (i k : ℕ) (d : ℕ × ℕ) → AreBlocked low n es → i < length es → low ≤ (get_or es i d).0
slots_after low n [] i k d h lt = absurd (omega (arith, lt))
slots_after low n (e ∷ es) zero k d h lt = h.0
slots_after low n (e ∷ es) (suc i) k d h lt =
    let later : e.0 + 1 ≤ (get_or es i d).0 = slots_after (e.0 + 1) n es i k d h.3 (omega (arith, lt)) in
    let from : low ≤ e.0 = h.0 in
    omega (arith, later, from)

pub slots_parted : (low n : ℕ) (es : List (ℕ × ℕ)) (k : ℕ) → AreBlocked low n es → IsPartitionedBy (λ (e : ℕ × ℕ). nat_lt e.0 k) es
slots_parted low n [] k h i j d le lt passes = absurd (omega (arith, lt))
slots_parted low n (e ∷ es) k h zero zero d le lt passes = passes
slots_parted low n (e ∷ es) k h zero (suc j) d le lt passes =
    let later : e.0 + 1 ≤ (get_or es j d).0 = slots_after (e.0 + 1) n es j k d h.3 (omega (arith, lt)) in
    let under : (get_or es j d).0 < k = ltb-true _ k passes in
    lt-ltb e.0 k (omega (arith, later, under))
slots_parted low n (e ∷ es) k h (suc i) zero d le lt passes = absurd (omega (arith, le))
slots_parted low n (e ∷ es) k h (suc i) (suc j) d le lt passes = slots_parted (e.0 + 1) n es k h.3 i j d (omega (arith, le)) (omega (arith, lt)) passes

-- the block of a slot stands there, if it has one
abbrev pub has_at : List (ℕ × ℕ) → ℕ → ℕ → Bool
has_at es i k = option_map_or (λ (e : ℕ × ℕ). e.0 == k) (slice_get es i) false

module _ (k : ℕ) where
  step : {X : Type 0} (e : ℕ × ℕ) (es : List (ℕ × ℕ)) (f : ℕ → X) → Before e.0 k → f (count_before (e ∷ es) k) ≡ f (suc (count_before es k))
  step e es f b =
      let more : 1 + count_before es k ≡ suc (count_before es k) = omega arith in
      ap (λ t. f (cond t (1 + count_before es k) 0)) b.1 ∙ ap f more

  none_before : (e : ℕ × ℕ) (es : List (ℕ × ℕ)) → nat_lt e.0 k ≡ false → count_before (e ∷ es) k ≡ 0
  none_before e es b = ap (λ t. cond t (1 + count_before es k) 0) b

  -- one more, where it has a block
  pub put_set : (c : ℕ) (es : List (ℕ × ℕ)) → has_at es (count_before es k) k ≡ true → c ≡ count_in es k + 1 → set es (count_before es k) (k, c) ≡ put_one es k
  put_set c [] has is = cc
  put_set c (e ∷ es) has is =
      elim (stands e.0 k) [
        | inl b ↦
            let lt : e.0 < k = b.0 in
            let rest : has_at es (count_before es k) k ≡ true = sym (step e es (λ i. has_at (e ∷ es) i k) b) ∙ has in
            step e es (λ i. set (e ∷ es) i (k, c)) b
            ∙ ap (λ fs. e ∷ fs) (put_set c es rest (is ∙ ap (λ m. m + 1) (count_tail e es k (λ same. omega (arith, same, lt)))))
            ∙ sym (first e.0 k (e ∷ put_one es k) ((k, e.1 + 1) ∷ es) ((k, 1) ∷ e ∷ es) b)
        | inr o ↦ elim o [
          | inl m ↦
              ap (λ i. set (e ∷ es) i (k, c)) (none_before e es m.1)
              ∙ ap (λ d. (k, d) ∷ es) (is ∙ ap (λ d. d + 1) (count_head e es k m.0))
              ∙ sym (second e.0 k (e ∷ put_one es k) ((k, e.1 + 1) ∷ es) ((k, 1) ∷ e ∷ es) m)
          | inr a ↦ absurd (both_ways _ a.2 (sym (ap (λ i. has_at (e ∷ es) i k) (none_before e es a.1)) ∙ has))
        ]
      ]

  -- or has none
  pub put_insert : (es : List (ℕ × ℕ)) → has_at es (count_before es k) k ≡ false → insert es (count_before es k) (k, 1) ≡ put_one es k
  put_insert [] has = refl
  put_insert (e ∷ es) has =
      elim (stands e.0 k) [
        | inl b ↦
            let rest : has_at es (count_before es k) k ≡ false = sym (step e es (λ i. has_at (e ∷ es) i k) b) ∙ has in
            step e es (λ i. insert (e ∷ es) i (k, 1)) b
            ∙ ap (λ fs. e ∷ fs) (put_insert es rest)
            ∙ sym (first e.0 k (e ∷ put_one es k) ((k, e.1 + 1) ∷ es) ((k, 1) ∷ e ∷ es) b)
        | inr o ↦ elim o [
          | inl m ↦ absurd (both_ways _ has (ap (λ i. has_at (e ∷ es) i k) (none_before e es m.1) ∙ m.2))
          | inr a ↦
              ap (λ i. insert (e ∷ es) i (k, 1)) (none_before e es a.1)
              ∙ sym (third e.0 k (e ∷ put_one es k) ((k, e.1 + 1) ∷ es) ((k, 1) ∷ e ∷ es) a)
        ]
      ]

  -- and then no flight is in it
  pub missing : (low n : ℕ) (es : List (ℕ × ℕ)) → AreBlocked low n es → has_at es (count_before es k) k ≡ false → count_in es k ≡ 0
  missing low n [] h has = refl
  missing low n (e ∷ es) h has =
      elim (stands e.0 k) [
        | inl b ↦
            let lt : e.0 < k = b.0 in
            let rest : has_at es (count_before es k) k ≡ false = sym (step e es (λ i. has_at (e ∷ es) i k) b) ∙ has in
            count_tail e es k (λ same. omega (arith, same, lt)) ∙ missing (e.0 + 1) n es h.3 rest
        | inr o ↦ elim o [
          | inl m ↦ absurd (both_ways _ has (ap (λ i. has_at (e ∷ es) i k) (none_before e es m.1) ∙ m.2))
          | inr a ↦
              let gt : k < e.0 = a.0 in
              count_tail e es k (λ same. omega (arith, same, gt)) ∙ none_below (e.0 + 1) n es k h.3 (omega (arith, gt))
        ]
      ]

  -- what it has there
  pub there : (es : List (ℕ × ℕ)) (e : ℕ × ℕ) → slice_get es (count_before es k) ≡ Some e → (e.0 == k) ≡ true → e.1 ≡ count_in es k
  there [] e found own = cc
  there (f ∷ es) e found own =
      elim (stands f.0 k) [
        | inl b ↦
            let lt : f.0 < k = b.0 in
            there es e (sym (step f es (λ i. slice_get (f ∷ es) i) b) ∙ found) own ∙ sym (count_tail f es k (λ same. omega (arith, same, lt)))
        | inr o ↦
            let start : count_before (f ∷ es) k ≡ 0 = none_before f es (elim o [ inl m ↦ m.1 | inr a ↦ a.1 ]) in
            let same : f ≡ e = same_Some f e (sym (ap (λ i. slice_get (f ∷ es) i) start) ∙ found) in
            sym (count_head f es k (ap (λ (g : ℕ × ℕ). g.0) same ∙ eqb-true e.0 k own) ∙ ap (λ (g : ℕ × ℕ). g.1) same)
      ]

-- one flight more adds one
sum_more : (bs : List ℕ) (k : ℕ) → sum (slice_set bs k (option_map_or (λ (n : ℕ). n + 1) (slice_get bs k) 0)) ≤ sum bs + 1
sum_more [] k = omega arith
sum_more (b ∷ bs) zero =
    let new : sum ((b + 1) ∷ bs) ≡ b + 1 + sum bs = sum-cons (b + 1) bs in
    let old : sum (b ∷ bs) ≡ b + sum bs = sum-cons b bs in
    omega (arith, new, old)
sum_more (b ∷ bs) (suc k) =
    let rest : sum (slice_set bs k (option_map_or (λ (n : ℕ). n + 1) (slice_get bs k) 0)) ≤ sum bs + 1 = sum_more bs k in
    let new : sum (b ∷ slice_set bs k (option_map_or (λ (n : ℕ). n + 1) (slice_get bs k) 0)) ≡ b + sum (slice_set bs k (option_map_or (λ (n : ℕ). n + 1) (slice_get bs k) 0)) = sum-cons b (slice_set bs k (option_map_or (λ (n : ℕ). n + 1) (slice_get bs k) 0)) in
    let old : sum (b ∷ bs) ≡ b + sum bs = sum-cons b bs in
    omega (arith, rest, new, old)

pub sum_raised : (bs : List ℕ) (slot : Option ℕ) → sum (raised bs slot) ≤ sum bs + 1
sum_raised bs None = omega arith
sum_raised bs (Some k) = sum_more bs k

pub sum_zeros : (n : ℕ) → sum (replicate n 0) ≡ 0
sum_zeros zero = refl
sum_zeros (suc n) = sum-cons 0 (replicate n 0) ∙ (let none : sum (replicate n 0) ≡ 0 = sum_zeros n in omega (arith, none))

pub has_within : (es : List (ℕ × ℕ)) (i k : ℕ) → has_at es i k ≡ true → i < length es
has_within [] i k has = cc
has_within (e ∷ es) zero k has = omega arith
has_within (e ∷ es) (suc i) k has = let rest : i < length es = has_within es i k has in omega (arith, rest)

pub before_within : (es : List (ℕ × ℕ)) (k : ℕ) → count_before es k ≤ length es
before_within es k = prefix_len-le-length (λ (e : ℕ × ℕ). nat_lt e.0 k) es

has_get : (es : List (ℕ × ℕ)) (i k : ℕ) (e : ℕ × ℕ) → has_at es i k ≡ true → e ≡ get_or es i e → (slice_get es i ≡ Some e) × ((e.0 == k) ≡ true)
has_get es i k e has is =
    let found : slice_get es i ≡ Some e = slice_get-get_or es i e (has_within es i k has) ∙ ap Some (sym is) in
    (found, sym (ap (λ o. option_map_or (λ (f : ℕ × ℕ). f.0 == k) o false) found) ∙ has)

-- what a search for the block of a slot finds
pub count_found : (es : List (ℕ × ℕ)) (i k : ℕ) (e : ℕ × ℕ) → i ≡ count_before es k → has_at es i k ≡ true → e ≡ get_or es i e → e.1 ≡ count_in es k
count_found es i k e at has is =
    let found = has_get es i k e has is in
    there k es e (ap (slice_get es) (sym at) ∙ found.0) found.1

pub put_found : (es : List (ℕ × ℕ)) (i k c : ℕ) → i ≡ count_before es k → has_at es i k ≡ true → c ≡ count_in es k + 1 → set es i (k, c) ≡ put_one es k
put_found es i k c at has is = ap (λ j. set es j (k, c)) at ∙ put_set k c es (ap (λ j. has_at es j k) (sym at) ∙ has) is

pub put_missed : (es : List (ℕ × ℕ)) (i k : ℕ) → i ≡ count_before es k → has_at es i k ≡ false → insert es i (k, 1) ≡ put_one es k
put_missed es i k at has = ap (λ j. insert es j (k, 1)) at ∙ put_insert k es (ap (λ j. has_at es j k) (sym at) ∙ has)

-- one less: the last one
module _ (k : ℕ) where
  pub take_last : (es : List (ℕ × ℕ)) → has_at es (count_before es k) k ≡ true → count_in es k ≡ 1 → remove es (count_before es k) ≡ take_one es k
  take_last [] has one = cc
  take_last (e ∷ es) has one =
      elim (stands e.0 k) [
        | inl b ↦
            let lt : e.0 < k = b.0 in
            let rest : has_at es (count_before es k) k ≡ true = sym (step k e es (λ i. has_at (e ∷ es) i k) b) ∙ has in
            step k e es (λ i. remove (e ∷ es) i) b
            ∙ ap (λ fs. e ∷ fs) (take_last es rest (sym (count_tail e es k (λ same. omega (arith, same, lt))) ∙ one))
            ∙ sym (first e.0 k (e ∷ take_one es k) (cond (e.1 == 1) es ((k, e.1 - 1) ∷ es)) (e ∷ es) b)
        | inr o ↦ elim o [
          | inl m ↦
              ap (λ i. remove (e ∷ es) i) (none_before k e es m.1)
              ∙ ap (λ t. cond t es ((k, e.1 - 1) ∷ es)) (sym (eq-eqb e.1 1 (sym (count_head e es k m.0) ∙ one)))
              ∙ sym (second e.0 k (e ∷ take_one es k) (cond (e.1 == 1) es ((k, e.1 - 1) ∷ es)) (e ∷ es) m)
          | inr a ↦ absurd (both_ways _ a.2 (sym (ap (λ i. has_at (e ∷ es) i k) (none_before k e es a.1)) ∙ has))
        ]
      ]

  -- or one of several
  pub take_set : (c : ℕ) (es : List (ℕ × ℕ)) → has_at es (count_before es k) k ≡ true → (count_in es k ≡ 1 → ⊥) → c ≡ count_in es k - 1 → set es (count_before es k) (k, c) ≡ take_one es k
  take_set c [] has more is = cc
  take_set c (e ∷ es) has more is =
      elim (stands e.0 k) [
        | inl b ↦
            let lt : e.0 < k = b.0 in
            let same : count_in (e ∷ es) k ≡ count_in es k = count_tail e es k (λ eq. omega (arith, eq, lt)) in
            let rest : has_at es (count_before es k) k ≡ true = sym (step k e es (λ i. has_at (e ∷ es) i k) b) ∙ has in
            step k e es (λ i. set (e ∷ es) i (k, c)) b
            ∙ ap (λ fs. e ∷ fs) (take_set c es rest (λ one. more (same ∙ one)) (is ∙ ap (λ m. m - 1) same))
            ∙ sym (first e.0 k (e ∷ take_one es k) (cond (e.1 == 1) es ((k, e.1 - 1) ∷ es)) (e ∷ es) b)
        | inr o ↦ elim o [
          | inl m ↦
              let own : count_in (e ∷ es) k ≡ e.1 = count_head e es k m.0 in
              ap (λ i. set (e ∷ es) i (k, c)) (none_before k e es m.1)
              ∙ ap (λ d. (k, d) ∷ es) (is ∙ ap (λ d. d - 1) own)
              ∙ ap (λ t. cond t es ((k, e.1 - 1) ∷ es)) (sym (ne_eqb e.1 1 (λ one. more (own ∙ one))))
              ∙ sym (second e.0 k (e ∷ take_one es k) (cond (e.1 == 1) es ((k, e.1 - 1) ∷ es)) (e ∷ es) m)
          | inr a ↦ absurd (both_ways _ a.2 (sym (ap (λ i. has_at (e ∷ es) i k) (none_before k e es a.1)) ∙ has))
        ]
      ]

  -- or there is none
  pub take_missed : (es : List (ℕ × ℕ)) → has_at es (count_before es k) k ≡ false → es ≡ take_one es k
  take_missed [] has = refl
  take_missed (e ∷ es) has =
      elim (stands e.0 k) [
        | inl b ↦
            let rest : has_at es (count_before es k) k ≡ false = sym (step k e es (λ i. has_at (e ∷ es) i k) b) ∙ has in
            ap (λ fs. e ∷ fs) (take_missed es rest) ∙ sym (first e.0 k (e ∷ take_one es k) (cond (e.1 == 1) es ((k, e.1 - 1) ∷ es)) (e ∷ es) b)
        | inr o ↦ elim o [
          | inl m ↦ absurd (both_ways _ has (ap (λ i. has_at (e ∷ es) i k) (none_before k e es m.1) ∙ m.2))
          | inr a ↦ sym (third e.0 k (e ∷ take_one es k) (cond (e.1 == 1) es ((k, e.1 - 1) ∷ es)) (e ∷ es) a)
        ]
      ]

some_if : (b : Bool) (n : ℕ) → cond b (Some n) None ≡ then_some b n
some_if true n = refl
some_if false n = refl

pub clear_told : (n slot : ℕ) (es fs : List (ℕ × ℕ)) (k : ℕ) → AreBlocked 0 n es → k ≤ n → fs ≡ es → slot ≡ passed fs k →
    then_some (nat_lt slot n) slot ≡ clear_from (dense n es) k
clear_told n slot es fs k h le same is =
    let at : slot ≡ passed es k = is ∙ ap (λ gs. passed gs k) same in
    ap (λ j. then_some (nat_lt j n) j) at ∙ sym (some_if (nat_lt (passed es k) n) (passed es k)) ∙ clear_found n es k h le

pub clear_past : (n : ℕ) (es : List (ℕ × ℕ)) (k : ℕ) → n ≤ k → None ≡ clear_from (dense n es) k
clear_past n es k le =
    let size : length (dense n es) ≡ n = length-dense n es in
    let none : length (dense n es) - k ≡ 0 = omega (arith, size, le) in
    sym (ap (λ m. find (is_clear (dense n es)) (range_with_len k m)) none)

-- those before a slot are passed over
pub passed_drop : (es : List (ℕ × ℕ)) (k : ℕ) → passed (drop (count_before es k) es) k ≡ passed es k
passed_drop [] k = refl
passed_drop (e ∷ es) k =
    elim (stands e.0 k) [
      | inl b ↦ step k e es (λ i. passed (drop i (e ∷ es)) k) b ∙ passed_drop es k ∙ sym (first e.0 k (passed es k) (passed es (k + 1)) k b)
      | inr o ↦ ap (λ i. passed (drop i (e ∷ es)) k) (none_before k e es (elim o [ inl m ↦ m.1 | inr a ↦ a.1 ]))
    ]

pub blocked_drop : (low n : ℕ) (es : List (ℕ × ℕ)) (k : ℕ) → AreBlocked low n es → AreBlocked k n (drop (count_before es k) es)
blocked_drop low n [] k h = tt
blocked_drop low n (e ∷ es) k h =
    elim (stands e.0 k) [
      | inl b ↦ subst (λ fs. AreBlocked k n fs) (sym (step k e es (λ i. drop i (e ∷ es)) b)) (blocked_drop (e.0 + 1) n es k h.3)
      | inr o ↦
          subst (λ fs. AreBlocked k n fs) (sym (ap (λ i. drop i (e ∷ es)) (none_before k e es (elim o [ inl m ↦ m.1 | inr a ↦ a.1 ]))))
          ((elim o [ inl m ↦ (let is : e.0 ≡ k = m.0 in omega (arith, is)) | inr a ↦ (let gt : k < e.0 = a.0 in omega (arith, gt)) ], h.1, h.2, h.3))
    ]

drop_is : (es : List (ℕ × ℕ)) (i : ℕ) (e : ℕ × ℕ) → i < length es → e ≡ get_or es i e → drop i es ≡ e ∷ drop (i + 1) es
drop_is [] i e lt is = absurd (omega (arith, lt))
drop_is (f ∷ es) zero e lt is = ap (λ g. g ∷ es) (sym is)
drop_is (f ∷ es) (suc i) e lt is =
    let more : suc i + 1 ≡ suc (i + 1) = omega arith in
    drop_is es i e (omega (arith, lt)) is ∙ ap (λ m. e ∷ drop m (f ∷ es)) (sym more)

pub own_get : (es : List (ℕ × ℕ)) (i : ℕ) (d : ℕ × ℕ) → i < length es → get_or es i d ≡ get_or es i (get_or es i d)
own_get [] i d lt = absurd (omega (arith, lt))
own_get (e ∷ es) zero d lt = refl
own_get (e ∷ es) (suc i) d lt = own_get es i d (omega (arith, lt))

module _ (n clear i : ℕ) (es : List (ℕ × ℕ)) (e : ℕ × ℕ) (lt : i < length es) (is : e ≡ get_or es i e) (h : AreBlocked clear n (drop i es)) where
  blocked_here : AreBlocked clear n (e ∷ drop (i + 1) es)
  blocked_here = subst (λ fs. AreBlocked clear n fs) (drop_is es i e lt is) h

  pub stop_at : (e.0 ≡ clear → ⊥) → clear ≡ passed (drop i es) clear
  stop_at other =
      let from : clear ≤ e.0 = blocked_here.0 in
      let gap : clear < e.0 = elim (cases_lt clear e.0) [ inl l ↦ l | inr ge ↦ absurd (other (omega (arith, ge, from))) ] in
      let behind : Behind e.0 clear = (gap, le-ltb e.0 clear (omega (arith, gap)), ne_eqb e.0 clear (λ same. omega (arith, same, gap))) in
      sym (ap (λ fs. passed fs clear) (drop_is es i e lt is) ∙ third e.0 clear (passed (drop (i + 1) es) clear) (passed (drop (i + 1) es) (clear + 1)) clear behind)

  pub go_on : e.0 ≡ clear → passed (drop (i + 1) es) (clear + 1) ≡ passed (drop i es) clear
  go_on same =
      let here : Here e.0 clear = (same, le-ltb e.0 clear (omega (arith, same)), eq-eqb e.0 clear same) in
      sym (ap (λ fs. passed fs clear) (drop_is es i e lt is) ∙ second e.0 clear (passed (drop (i + 1) es) clear) (passed (drop (i + 1) es) (clear + 1)) clear here)

  pub blocked_on : e.0 ≡ clear → AreBlocked (clear + 1) n (drop (i + 1) es)
  blocked_on same = subst (λ m. AreBlocked (m + 1) n (drop (i + 1) es)) same blocked_here.3

  pub under_end : e.0 < n
  under_end = blocked_here.1

-- one less, where a search finds it
pub last_found : (es : List (ℕ × ℕ)) (i k : ℕ) → i ≡ count_before es k → has_at es i k ≡ true → count_in es k ≡ 1 → remove es i ≡ take_one es k
last_found es i k at has one = ap (remove es) at ∙ take_last k es (ap (λ j. has_at es j k) (sym at) ∙ has) one

pub more_found : (es : List (ℕ × ℕ)) (i k c : ℕ) → i ≡ count_before es k → has_at es i k ≡ true → (count_in es k ≡ 1 → ⊥) → c ≡ count_in es k - 1 → set es i (k, c) ≡ take_one es k
more_found es i k c at has more is = ap (λ j. set es j (k, c)) at ∙ take_set k c es (ap (λ j. has_at es j k) (sym at) ∙ has) more is

pub none_found : (es : List (ℕ × ℕ)) (i k : ℕ) → i ≡ count_before es k → has_at es i k ≡ false → es ≡ take_one es k
none_found es i k at has = take_missed k es (ap (λ j. has_at es j k) (sym at) ∙ has)

-- whether one flight is in a slot
one_dense : (n : ℕ) (es : List (ℕ × ℕ)) (k : ℕ) → AreBlocked 0 n es → option_map_or (λ (c : ℕ). c == 1) (slice_get (dense n es) k) false ≡ (count_in es k == 1)
one_dense n es k h =
    let size : length (dense n es) ≡ n = length-dense n es in
    elim (cases_lt k n) [
      | inl lt ↦ ap (λ o. option_map_or (λ (c : ℕ). c == 1) o false) (get_dense n es k lt)
      | inr le ↦
          ap (λ o. option_map_or (λ (c : ℕ). c == 1) o false) (slice_get_past (dense n es) k (omega (arith, size, le)))
          ∙ ap (λ c. c == 1) (sym (none_beyond 0 n es k h le))
    ]

pub one_there : (n : ℕ) (es : List (ℕ × ℕ)) (i k : ℕ) (e : ℕ × ℕ) → AreBlocked 0 n es → i ≡ count_before es k → has_at es i k ≡ true → e ≡ get_or es i e → (e.1 == 1) ≡ option_map_or (λ (c : ℕ). c == 1) (slice_get (dense n es) k) false
one_there n es i k e h at has is = ap (λ c. c == 1) (count_found es i k e at has is) ∙ sym (one_dense n es k h)

pub none_there : (n : ℕ) (es : List (ℕ × ℕ)) (i k : ℕ) → AreBlocked 0 n es → i ≡ count_before es k → has_at es i k ≡ false → false ≡ option_map_or (λ (c : ℕ). c == 1) (slice_get (dense n es) k) false
none_there n es i k h at has =
    ap (λ c. c == 1) (sym (missing k 0 n es h (ap (λ j. has_at es j k) (sym at) ∙ has))) ∙ sym (one_dense n es k h)
