-- slots by the numbers of the periods' first slots
use Rattle.std.proofs.Common.{◌≡◌, ℕ, ◌+◌, ◌-◌, ◌*◌, ◌/◌, ◌<◌, ◌≤◌, List, [], ◌∷◌, ◌++◌, length, get_or, All, Bool, true, false, not, nat_le, nat_lt, None, Some, cond, refl, sym, ap, subst, ◌∙◌, arith, map, zero, suc, min, inl, inr}
use Rattle.std.specs.List.{range_with_len, slice_get, slice_index_or, position_or_len, prefix_len}
use Rattle.std.specs.List.Sorted.{IsNonDecreasingBy, IsPartitionPoint}
use Rattle.std.specs.Option.{option_map_or}
use Rattle.std.specs.Bool.{then_some}
use Rattle.std.proofs.lemmas.List.Sums.{prefix_len_is}
use Rattle.std.proofs.lemmas.List.{length-append, get_or-append_right, get_or_append_left}
use Rattle.std.proofs.lemmas.List.Elements.{All-head, All-tail, All-get_or}
use Rattle.std.proofs.lemmas.List.FromFn.{length-map-range_with_len, get_or-map-range_with_len}
use Rattle.std.proofs.lemmas.Option.{slice_get-get_or}
use Rattle.std.proofs.lemmas.Bool.{cases_lt, le-leb, lt-leb, le-ltb, lt-ltb}
use Rattle.std.proofs.lemmas.Nat.{le-div}
use Rattle.std.proofs.Math.Nat.{div-lt_iff_lt-mul, mul-le-mul_right}
use Rattle.casa_grid.specs.declared.period.Period.{Period}
use Rattle.casa_grid.specs.declared.slot.Window.{Window}
use Rattle.casa_grid.specs.Profile.{IsProfile, AreJoined, end_of}
use Rattle.casa_grid.specs.Slots.{slot_begin, slot_count, window_at, slots_of_period, slots, begin_at, wanted}
use Rattle.casa_grid.specs.Firsts.{first_slots, first_slots_from, last_of, ended_by}
use Rattle.casa_grid.proofs.Slots.{has_rate, periods_apart}
use Rattle.casa_grid.proofs.Windows.{AreApart, some_if}

pub length-slots_of : (p : Period) → length (slots_of_period p) ≡ slot_count p
length-slots_of p = length-map-range_with_len (window_at p) 0 (slot_count p)

pub length-slots : (p : Period) (ps : List Period) → length (slots (p ∷ ps)) ≡ slot_count p + length (slots ps)
length-slots p ps = length-append (slots_of_period p) (slots ps) ∙ ap (λ n. n + length (slots ps)) (length-slots_of p)

pub length-firsts : (n : ℕ) (ps : List Period) → length (first_slots_from n ps) ≡ suc (length ps)
length-firsts n [] = refl
length-firsts n (p ∷ ps) = ap suc (length-firsts (n + slot_count p) ps)

-- the last of the numbers is that of all slots
get_last : (n : ℕ) (ps : List Period) (d : ℕ) → get_or (first_slots_from n ps) (length ps) d ≡ n + length (slots ps)
get_last n [] d = omega arith
get_last n (p ∷ ps) d =
    let size : length (slots (p ∷ ps)) ≡ slot_count p + length (slots ps) = length-slots p ps in
    let rest : get_or (first_slots_from (n + slot_count p) ps) (length ps) d ≡ n + slot_count p + length (slots ps) = get_last (n + slot_count p) ps d in
    omega (arith, size, rest)

pub last_first : (ps : List Period) → last_of (first_slots ps) ≡ length (slots ps)
last_first ps =
    let size : length (first_slots ps) ≡ suc (length ps) = length-firsts 0 ps in
    let at : length (first_slots ps) - 1 ≡ length ps = omega (arith, size) in
    let got : slice_get (first_slots ps) (length ps) ≡ Some (get_or (first_slots ps) (length ps) 0) = slice_get-get_or (first_slots ps) (length ps) 0 (omega (arith, size)) in
    let last : get_or (first_slots ps) (length ps) 0 ≡ 0 + length (slots ps) = get_last 0 ps 0 in
    let all : 0 + length (slots ps) ≡ length (slots ps) = omega arith in
    rw (at, got, last) all

-- the numbers rise
firsts_above : (n : ℕ) (ps : List Period) (j d : ℕ) → j < suc (length ps) → n ≤ slice_index_or (first_slots_from n ps) j d
firsts_above n [] zero d lt = omega arith
firsts_above n [] (suc j) d lt = absurd (omega (arith, lt))
firsts_above n (p ∷ ps) zero d lt = omega arith
firsts_above n (p ∷ ps) (suc j) d lt =
    let later : n + slot_count p ≤ slice_index_or (first_slots_from (n + slot_count p) ps) j d = firsts_above (n + slot_count p) ps j d (omega (arith, lt)) in
    omega (arith, later)

firsts_rise_from : (n : ℕ) (ps : List Period) (i j d : ℕ) → i ≤ j → j < suc (length ps) → slice_index_or (first_slots_from n ps) i d ≤ slice_index_or (first_slots_from n ps) j d
firsts_rise_from n ps zero j d le lt = firsts_least n ps j d lt
  where
    firsts_least : (n : ℕ) (ps : List Period) (j d : ℕ) → j < suc (length ps) → slice_index_or (first_slots_from n ps) zero d ≤ slice_index_or (first_slots_from n ps) j d
    firsts_least n [] j d lt = firsts_above n [] j d lt
    firsts_least n (p ∷ ps) j d lt = firsts_above n (p ∷ ps) j d lt
firsts_rise_from n ps (suc i) zero d le lt = absurd (omega (arith, le))
firsts_rise_from n [] (suc i) (suc j) d le lt = absurd (omega (arith, lt))
firsts_rise_from n (p ∷ ps) (suc i) (suc j) d le lt = firsts_rise_from (n + slot_count p) ps i j d (omega (arith, le)) (omega (arith, lt))

pub firsts_rise : (ps : List Period) → IsNonDecreasingBy (λ (n : ℕ). n) (first_slots ps)
firsts_rise ps i j d le lt =
    let size : length (first_slots ps) ≡ suc (length ps) = length-firsts 0 ps in
    firsts_rise_from 0 ps i j d le (omega (arith, size, lt))

-- the number before which all pass and from which on none does
pub first_failing : {X : Type 0} (p : X → Bool) (d : X) (xs : List X) (i : ℕ) → i ≤ length xs
    → IsPartitionPoint (λ (y : X). p y ≡ true) (λ (y : X). p y ≡ false) xs i → i ≡ prefix_len p xs
first_failing p d xs i le point =
    sym (prefix_len_is p xs i d le (λ k lt. point.0 k d (omega arith) lt) (λ lt. point.1 i d (omega arith) lt))

-- the period whose first slot is the last one up to slot k has slot k
module _ (k : ℕ) (d : Period) (e : ℕ) where
  none_up_to : (n : ℕ) (ps : List Period) → k < n → prefix_len (λ f. nat_le f k) (first_slots_from n ps) ≡ 0
  none_up_to n [] lt = ap (λ b. cond b 1 0) (lt-leb n k lt)
  none_up_to n (p ∷ ps) lt = ap (λ b. cond b (1 + prefix_len (λ f. nat_le f k) (first_slots_from (n + slot_count p) ps)) 0) (lt-leb n k lt)

  pub record Found (n : ℕ) (ps : List Period) : Type 0 where
    pub number : ℕ
    pub is : prefix_len (λ f. nat_le f k) (first_slots_from n ps) ≡ suc number
    pub within : number < length ps
    pub from : get_or (first_slots_from n ps) number e ≤ k
    pub under : k - get_or (first_slots_from n ps) number e < slot_count (get_or ps number d)
    pub window : (w : Window) → get_or (slots ps) (k - n) w ≡ window_at (get_or ps number d) (k - get_or (first_slots_from n ps) number e)

  pub found : (n : ℕ) (ps : List Period) → n ≤ k → k < n + length (slots ps) → Found n ps
  found n [] le lt = absurd (omega (arith, le, lt))
  found n (p ∷ ps) le lt =
      let count : length (slots_of_period p) ≡ slot_count p = length-slots_of p in
      let begun : nat_le n k ≡ true = le-leb n k le in
      elim (cases_lt k (n + slot_count p)) [
        | inl here ↦
            let j : k - n < slot_count p = omega (arith, le, here) in
            record {
              number = 0;
              is =
                  ap (λ b. cond b (1 + prefix_len (λ f. nat_le f k) (first_slots_from (n + slot_count p) ps)) 0) begun
                  ∙ ap (λ m. 1 + m) (none_up_to (n + slot_count p) ps here);
              within = omega arith;
              from = le;
              under = j;
              window = λ w.
                  get_or_append_left (slots_of_period p) (slots ps) w (k - n) (omega (arith, j, count))
                  ∙ get_or-map-range_with_len (window_at p) 0 (slot_count p) (k - n) (k - n) w j (omega arith);
            }
        | inr later ↦
            let size : length (slots (p ∷ ps)) ≡ slot_count p + length (slots ps) = length-slots p ps in
            let rest : Found (n + slot_count p) ps = found (n + slot_count p) ps later (omega (arith, lt, size)) in
            let gone : k - n - slot_count p ≡ k - (n + slot_count p) = omega arith in
            record {
              number = suc rest.number;
              is =
                  ap (λ b. cond b (1 + prefix_len (λ f. nat_le f k) (first_slots_from (n + slot_count p) ps)) 0) begun
                  ∙ ap (λ m. 1 + m) rest.is
                  ∙ (let more : 1 + suc rest.number ≡ suc (suc rest.number) = omega arith in more);
              within = let inside : rest.number < length ps = rest.within in omega (arith, inside);
              from = rest.from;
              under = rest.under;
              window = λ w.
                  get_or-append_right (slots_of_period p) (slots ps) (slot_count p) (k - n) w count (omega (arith, later))
                  ∙ ap (λ m. get_or (slots ps) m w) gone
                  ∙ rest.window w;
            }
      ]

-- and slot k begins where it does there
pub begin_found : (k : ℕ) (d : Period) (e : ℕ) (ps : List Period) → k < length (slots ps) → (f : Found k d e 0 ps) →
    slot_begin (get_or ps f.number d) (k - get_or (first_slots ps) f.number e) ≡ begin_at (slots ps) k
begin_found k d e ps lt f =
    let w : Window = record { begin = 0; until = 0 } in
    let same : k - 0 ≡ k = omega arith in
    sym (ap (λ o. option_map_or (λ (v : Window). v.begin) o 0) (slice_get-get_or (slots ps) k w lt ∙ ap Some (ap (λ m. get_or (slots ps) m w) (sym same) ∙ f.window w)))

-- the period that a search for slot k finds
pub record Chosen (ps : List Period) (fs : List ℕ) (k i : ℕ) : Type 0 where
  pub some : 1 ≤ i
  pub within : i - 1 < length ps
  pub numbered : i - 1 < length fs
  pub from : get_or fs (i - 1) 0 ≤ k
  pub period : (p : Period) → p ≡ get_or ps (i - 1) p →
      (k - get_or fs (i - 1) 0 < slot_count p) × (p.rate ≤ 600) × (slot_begin p (k - get_or fs (i - 1) 0) ≡ begin_at (slots ps) k)

pub chosen : (ps : List Period) (fs : List ℕ) (k i : ℕ) → IsProfile ps → fs ≡ first_slots ps → k < length (slots ps) → i ≡ prefix_len (λ n. nat_le n k) fs → Chosen ps fs k i
chosen ps fs k i valid are lt counted =
    subst (λ gs. Chosen ps gs k i) (sym are)
    (let none : Period = record { begin = 0; until = 0; rate = 0 } in
    let f : Found k none 0 0 ps = found k none 0 0 ps (omega arith) (omega (arith, lt)) in
    let is : i ≡ suc f.number = counted ∙ ap (prefix_len (λ n. nat_le n k)) are ∙ f.is in
    let at : f.number ≡ i - 1 = omega (arith, is) in
    let inside : f.number < length ps = f.within in
    let size : length (first_slots ps) ≡ suc (length ps) = length-firsts 0 ps in
    record {
      some = omega (arith, is);
      within = omega (arith, at, inside);
      numbered = omega (arith, at, inside, size);
      from = subst (λ m. get_or (first_slots ps) m 0 ≤ k) at f.from;
      period = λ p own.
          let g : Found k p 0 0 ps = found k p 0 0 ps (omega arith) (omega (arith, lt)) in
          let same : suc g.number ≡ suc f.number = sym g.is ∙ f.is in
          let there : g.number ≡ i - 1 = omega (arith, same, at) in
          let here : get_or ps g.number p ≡ p = ap (λ m. get_or ps m p) there ∙ sym own in (
            subst (λ m. k - get_or (first_slots ps) m 0 < slot_count p) there (subst (λ (q : Period). k - get_or (first_slots ps) g.number 0 < slot_count q) here g.under),
            subst (λ (q : Period). q.rate ≤ 600) here (All-get_or (λ (q : Period). q.rate ≤ 600) ps g.number p g.within valid.rates),
            (λ j. slot_begin (sym here j) (k - get_or (first_slots ps) (sym there j) 0)) ∙ begin_found k p 0 ps lt g,
          );
    })

-- periods end one after the other
end_above : (p : Period) (ps : List Period) (j : ℕ) (d : Period) → All (λ (q : Period). q.begin < q.until) (p ∷ ps) → AreJoined (p ∷ ps) → j < suc (length ps) →
    p.until ≤ (slice_index_or (p ∷ ps) j d).until
end_above p ps zero d filled joined lt = omega arith
end_above p [] (suc j) d filled joined lt = absurd (omega (arith, lt))
end_above p (q ∷ ps) (suc j) d filled joined lt =
    let tail = All-tail (λ (r : Period). r.begin < r.until) p (q ∷ ps) filled in
    let here : q.begin < q.until = All-head (λ (r : Period). r.begin < r.until) q ps tail in
    let meets : p.until ≡ q.begin = joined.0 in
    let later : q.until ≤ (slice_index_or (q ∷ ps) j d).until = end_above q ps j d tail joined.1 (omega (arith, lt)) in
    omega (arith, here, meets, later)

ends_rise : (ps : List Period) → All (λ (q : Period). q.begin < q.until) ps → AreJoined ps → IsNonDecreasingBy (λ (p : Period). p.until) ps
ends_rise [] filled joined i j d le lt = absurd (omega (arith, lt))
ends_rise (p ∷ ps) filled joined zero j d le lt = end_above p ps j d filled joined lt
ends_rise (p ∷ ps) filled joined (suc i) zero d le lt = absurd (omega (arith, le))
ends_rise (p ∷ []) filled joined (suc i) (suc j) d le lt = absurd (omega (arith, lt))
ends_rise (p ∷ q ∷ ps) filled joined (suc i) (suc j) d le lt =
    ends_rise (q ∷ ps) (All-tail (λ (r : Period). r.begin < r.until) p (q ∷ ps) filled) joined.1 i j d (omega (arith, le)) (omega (arith, lt))

pub periods_rise : (ps : List Period) → IsProfile ps → IsNonDecreasingBy (λ (p : Period). p.until) ps
periods_rise ps h = ends_rise ps h.filled h.joined

-- the slots of a period that has ended have ended
abbrev pub runs : ℕ → Window → Bool
runs at w = nat_lt at w.until

skipped : (p : Period) (at a n : ℕ) (ws : List Window) → p.until ≤ at →
    position_or_len (runs at) (map (window_at p) (range_with_len a n) ++ ws) ≡ n + position_or_len (runs at) ws
skipped p at a zero ws ended = omega arith
skipped p at a (suc n) ws ended =
    let under : min (slot_begin p (a + 1)) p.until ≤ p.until = omega arith in
    let over : nat_lt at (min (slot_begin p (a + 1)) p.until) ≡ false = le-ltb at _ (omega (arith, under, ended)) in
    ap (λ b. cond (not b) (1 + position_or_len (runs at) (map (window_at p) (range_with_len (a + 1) n) ++ ws)) 0) over
    ∙ ap (λ m. 1 + m) (skipped p at (a + 1) n ws ended)
    ∙ (let more : 1 + (n + position_or_len (runs at) ws) ≡ suc n + position_or_len (runs at) ws = omega arith in more)

-- behind it the first slot runs
first_runs : (at start end : ℕ) (ws : List Window) → at < start → AreApart start end ws → position_or_len (runs at) ws ≡ 0
first_runs at start end [] lt h = refl
first_runs at start end (w ∷ ws) lt h =
    ap (λ b. cond (not b) (1 + position_or_len (runs at) ws) 0) (lt-ltb at w.until (omega (arith, lt, h.0, h.1)))

-- the slots of a period that has ended have ended by count
ended_slot : (p : Period) (at a : ℕ) → 0 < p.rate → a < ended_by p at → slot_begin p (a + 1) ≤ at
ended_slot p at a some lt =
    let under : (a + 1) * 3600 < (at + 1 - p.begin) * p.rate = omega (arith, lt) in
    let quotient : (a + 1) * 3600 / p.rate < at + 1 - p.begin = (div-lt_iff_lt-mul some).1 under in
    omega (arith, quotient)

running_slot : (p : Period) (at a : ℕ) → 0 < p.rate → a ≡ ended_by p at → at < slot_begin p (a + 1)
running_slot p at a some is =
    let under : (at + 1 - p.begin) * p.rate ≤ (a + 1) * 3600 = omega (arith, is) in
    let quotient : at + 1 - p.begin ≤ (a + 1) * 3600 / p.rate = le-div (at + 1 - p.begin) ((a + 1) * 3600) p.rate some under in
    omega (arith, quotient)

ended_few : (p : Period) (at : ℕ) → at < p.until → ended_by p at ≤ slot_count p
ended_few p at lt =
    let passed : at + 1 - p.begin ≤ p.until - p.begin = omega (arith, lt) in
    let less : (at + 1 - p.begin) * p.rate ≤ (p.until - p.begin) * p.rate = mul-le-mul_right p.rate passed in
    omega (arith, less)

within_period : (p : Period) (at a n : ℕ) (ws : List Window) → p.rate ≤ 600 → at < p.until → a + n ≡ slot_count p → a ≤ ended_by p at → position_or_len (runs at) ws ≡ 0 →
    position_or_len (runs at) (map (window_at p) (range_with_len a n) ++ ws) + a ≡ ended_by p at
within_period p at a zero ws rate lt count le none =
    let few : ended_by p at ≤ slot_count p = ended_few p at lt in
    omega (arith, none, few, count, le)
within_period p at a (suc n) ws rate lt count le none =
    let some : 0 < p.rate = has_rate p a (omega (arith, count)) in
    let rest : ℕ = position_or_len (runs at) (map (window_at p) (range_with_len (a + 1) n) ++ ws) in
    elim (cases_lt a (ended_by p at)) [
      | inl less ↦
          let begun : slot_begin p (a + 1) ≤ at = ended_slot p at a some less in
          let under : min (slot_begin p (a + 1)) p.until ≤ slot_begin p (a + 1) = omega arith in
          let over : nat_lt at (min (slot_begin p (a + 1)) p.until) ≡ false = le-ltb at _ (omega (arith, under, begun)) in
          let more : rest + (a + 1) ≡ ended_by p at = within_period p at (a + 1) n ws rate lt (omega (arith, count)) (omega (arith, less)) none in
          let step : cond (not (nat_lt at (min (slot_begin p (a + 1)) p.until))) (1 + rest) 0 ≡ 1 + rest = ap (λ b. cond (not b) (1 + rest) 0) over in
          ap (λ m. m + a) step ∙ (omega (arith, more))
      | inr no_less ↦
          let is : a ≡ ended_by p at = omega (arith, no_less, le) in
          let next : at < slot_begin p (a + 1) = running_slot p at a some is in
          let now_open : nat_lt at (min (slot_begin p (a + 1)) p.until) ≡ true = lt-ltb at _ (omega (arith, next, lt)) in
          let step : cond (not (nat_lt at (min (slot_begin p (a + 1)) p.until))) (1 + rest) 0 ≡ 0 = ap (λ b. cond (not b) (1 + rest) 0) now_open in
          ap (λ m. m + a) step ∙ (omega (arith, is))
    ]

-- so the first slot that runs is found by the period that runs and the slots of it that have ended
pub first_running : (at n : ℕ) (ps : List Period) (d : Period) (e : ℕ) →
    All (λ (q : Period). q.begin < q.until) ps → AreJoined ps → All (λ (q : Period). q.rate ≤ 600) ps →
    let i : ℕ = prefix_len (λ (p : Period). nat_le p.until at) ps in
    i < length ps → get_or (first_slots_from n ps) i e + ended_by (get_or ps i d) at ≡ n + position_or_len (runs at) (slots ps)
first_running at n [] d e filled joined rates lt = absurd (omega (arith, lt))
first_running at n (p ∷ ps) d e filled joined rates lt =
    let tail = All-tail (λ (q : Period). q.begin < q.until) p ps filled in
    let rest = All-tail (λ (q : Period). q.rate ≤ 600) p ps rates in
    let i : ℕ = prefix_len (λ (p : Period). nat_le p.until at) ps in
    let more : 1 + i ≡ suc i = omega arith in
    elim (cases_lt at p.until) [
      | inl now_open ↦
          let here : nat_le p.until at ≡ false = lt-leb p.until at now_open in
          let none : position_or_len (runs at) (slots ps) ≡ 0 = behind now_open ps tail joined rest in
          let found : position_or_len (runs at) (slots (p ∷ ps)) + 0 ≡ ended_by p at =
          within_period p at 0 (slot_count p) (slots ps) (All-head (λ (q : Period). q.rate ≤ 600) p ps rates) now_open (omega arith) (omega arith) none in
          ap (λ b. get_or (first_slots_from n (p ∷ ps)) (cond b (1 + i) 0) e + ended_by (get_or (p ∷ ps) (cond b (1 + i) 0) d) at) here
          ∙ (omega (arith, found))
      | inr ended ↦
          let here : nat_le p.until at ≡ true = le-leb p.until at ended in
          let fewer : i < length ps = below (nat_le p.until at) here lt in
          let found : get_or (first_slots_from (n + slot_count p) ps) i e + ended_by (get_or ps i d) at ≡ n + slot_count p + position_or_len (runs at) (slots ps) =
          first_running at (n + slot_count p) ps d e tail (joined_tail p ps joined) rest fewer in
          let gone : position_or_len (runs at) (slots (p ∷ ps)) ≡ slot_count p + position_or_len (runs at) (slots ps) = skipped p at 0 (slot_count p) (slots ps) ended in
          ap (λ b. get_or (first_slots_from n (p ∷ ps)) (cond b (1 + i) 0) e + ended_by (get_or (p ∷ ps) (cond b (1 + i) 0) d) at) here
          ∙ ap (λ m. get_or (first_slots_from n (p ∷ ps)) m e + ended_by (get_or (p ∷ ps) m d) at) more
          ∙ (omega (arith, found, gone))
    ]
  where
    below : (b : Bool) → b ≡ true → cond b (1 + prefix_len (λ (p : Period). nat_le p.until at) ps) 0 < suc (length ps) → prefix_len (λ (p : Period). nat_le p.until at) ps < length ps
    below true is h = omega (arith, h)
    below false is h = cc

    joined_tail : (p : Period) (ps : List Period) → AreJoined (p ∷ ps) → AreJoined ps
    joined_tail p [] h = tt
    joined_tail p (q ∷ ps) h = h.1

    behind : at < p.until → (ps : List Period) → All (λ (q : Period). q.begin < q.until) ps → AreJoined (p ∷ ps) → All (λ (q : Period). q.rate ≤ 600) ps → position_or_len (runs at) (slots ps) ≡ 0
    behind now_open [] filled joined rates = refl
    behind now_open (q ∷ qs) filled joined rates =
        let meets : p.until ≡ q.begin = joined.0 in
        first_runs at q.begin (end_of (q ∷ qs)) (slots (q ∷ qs)) (omega (arith, now_open, meets)) (periods_apart q qs q.begin (omega arith) filled joined.1 rates)

pub all_ended : (at : ℕ) (ps : List Period) → length ps ≤ prefix_len (λ (p : Period). nat_le p.until at) ps → position_or_len (runs at) (slots ps) ≡ length (slots ps)
all_ended at [] le = refl
all_ended at (p ∷ ps) le =
    elim (cases_lt at p.until) [
      | inl now_open ↦ absurd (not_all (nat_le p.until at) (lt-leb p.until at now_open) le)
      | inr ended ↦
          let fewer : length ps ≤ prefix_len (λ (p : Period). nat_le p.until at) ps = all_behind (nat_le p.until at) (le-leb p.until at ended) le in
          skipped p at 0 (slot_count p) (slots ps) ended ∙ ap (λ n. slot_count p + n) (all_ended at ps fewer) ∙ sym (length-slots p ps)
    ]
  where
    not_all : (b : Bool) → b ≡ false → suc (length ps) ≤ cond b (1 + prefix_len (λ (p : Period). nat_le p.until at) ps) 0 → ⊥
    not_all true is h = cc
    not_all false is h = omega (arith, h)

    all_behind : (b : Bool) → b ≡ true → suc (length ps) ≤ cond b (1 + prefix_len (λ (p : Period). nat_le p.until at) ps) 0 → length ps ≤ prefix_len (λ (p : Period). nat_le p.until at) ps
    all_behind true is h = omega (arith, h)
    all_behind false is h = cc

-- the slot that is asked for, by a search for the period
pub record Asked (ps : List Period) (fs : List ℕ) (at i : ℕ) : Type 0 where
  pub numbered : i < length ps → i < length fs
  pub slot : (p : Period) → i < length ps → p ≡ get_or ps i p → get_or fs i 0 + ended_by p at ≡ position_or_len (runs at) (slots ps)
  pub none : length ps ≤ i → None ≡ wanted (slots ps) at
  pub all : last_of fs ≡ length (slots ps)
  pub last : get_or fs (length ps) 0 ≡ length (slots ps)
  pub few : position_or_len (runs at) (slots ps) ≤ length (slots ps)

pub asked : (ps : List Period) (fs : List ℕ) (at i : ℕ) → IsProfile ps → fs ≡ first_slots ps → i ≡ prefix_len (λ (p : Period). nat_le p.until at) ps → Asked ps fs at i
asked ps fs at i valid are counted =
    subst (λ gs. Asked ps gs at i) (sym are)
    (let size : length (first_slots ps) ≡ suc (length ps) = length-firsts 0 ps in
    record {
      numbered = λ lt. omega (arith, size, lt);
      slot = λ p lt own.
          let under : prefix_len (λ (q : Period). nat_le q.until at) ps < length ps = omega (arith, counted, lt) in
          ap (λ (q : Period). get_or (first_slots ps) i 0 + ended_by q at) own
          ∙ ap (λ m. get_or (first_slots ps) m 0 + ended_by (get_or ps m p) at) counted
          ∙ first_running at 0 ps p 0 valid.filled valid.joined valid.rates under
          ∙ (omega arith);
      none = λ past.
          let over : length ps ≤ prefix_len (λ (q : Period). nat_le q.until at) ps = omega (arith, counted, past) in
          let ended : position_or_len (runs at) (slots ps) ≡ length (slots ps) = all_ended at ps over in
          sym (ap (λ b. cond b (Some (position_or_len (runs at) (slots ps))) None) (le-ltb _ _ (omega (arith, ended))));
      all = last_first ps;
      last = get_last 0 ps 0 ∙ (omega arith);
      few = position_few at (slots ps);
    })
  where
    position_few : (at : ℕ) (ws : List Window) → position_or_len (runs at) ws ≤ length ws
    position_few at [] = omega arith
    position_few at (w ∷ ws) =
        let rest : position_or_len (runs at) ws ≤ length ws = position_few at ws in
        elim (runs at w) as (λ b. cond (not b) (1 + position_or_len (runs at) ws) 0 ≤ suc (length ws)) [
          | true ↦ omega arith
          | false ↦ omega (arith, rest)
        ]

-- so it is told by its number
pub told : (ps : List Period) (at slot count : ℕ) → slot ≡ position_or_len (runs at) (slots ps) → count ≡ length (slots ps) → then_some (nat_lt slot count) slot ≡ wanted (slots ps) at
told ps at slot count is all =
    (λ i. then_some (nat_lt (is i) (all i)) (is i))
    ∙ sym (some_if (nat_lt (position_or_len (runs at) (slots ps)) (length (slots ps))) (position_or_len (runs at) (slots ps)))
