-- how many issued flights lie in each slot, as one more or one less does
use Rattle.std.proofs.Common.{◌≡◌, ◌==◌, ℕ, ◌+◌, ◌-◌, ◌<◌, ◌≤◌, List, [], ◌∷◌, ◌++◌, append-nil, get_or, take, length, Bool, true, false, not, nat_lt, refl, sym, ◌∙◌, ap, subst, arith, zero, suc, cond, Option, None, Some, replicate, count_by, sum}
use Rattle.std.specs.Option.{option_map_or, option_and_then}
use Rattle.std.specs.List.{AllByRecursion, cons_option, position_or_len, slice_get, slice_set}
use Rattle.std.proofs.lemmas.List.{length-set}
use Rattle.std.proofs.lemmas.List.Sums.{count_by-le-length}
use Rattle.std.proofs.lemmas.Bool.{and_parts, ltb-true, ltb-false, leb-true, false_from_ne_true}
use Rattle.casa_grid.specs.declared.period.Period.{Period}
use Rattle.casa_grid.specs.declared.slot.Window.{Window}
use Rattle.casa_grid.specs.Profile.{IsProfile, start_of, end_of}
use Rattle.casa_grid.specs.Slots.{slots, is_within, window_of}
use Rattle.casa_grid.proofs.Slots.{slots-apart}
use Rattle.casa_grid.proofs.Windows.{AreApart}
use Rattle.casa_flight.specs.declared.comp.Comp.{Comp}
use Rattle.casa_slots.specs.Blocked.{counts, raised, lowered, time_of, times_in}
use Rattle.casa_slots.specs.declared.standing.Standing.{Standing}
use Rattle.casa_slots.proofs.Rightly.{count_by-cons, length-counts}
use Rattle.casa_slots.proofs.Walked.{AgreeBut, AgreeAt}
use Rattle.casa_slots.proofs.Sparse.{sum_raised, sum_zeros}

pub swapped : (a b n : ℕ) → a + (b + n) ≡ b + (a + n)
swapped a b n = omega arith

-- a moment lies in one window only
abbrev LiesOnce : ℕ → List Window → Type 0
LiesOnce t [] = Unit {0}
LiesOnce t (w ∷ ws) = (is_within t w ≡ true → AllByRecursion (λ (v : Window). is_within t v ≡ false) ws) × LiesOnce t ws

not_before_start : (t start end : ℕ) (ws : List Window) → t < start → AreApart start end ws → AllByRecursion (λ (v : Window). is_within t v ≡ false) ws
not_before_start t start end [] lt h = tt
not_before_start t start end (w ∷ ws) lt h = (
  false_from_ne_true _ (λ is. let from : w.begin ≤ t = leb-true _ _ (and_parts _ _ is).0 in absurd (omega (arith, from, lt, h.0))),
  not_before_start t w.until end ws (omega (arith, lt, h.0, h.1)) h.3,
)

lies_once : (t start end : ℕ) (ws : List Window) → AreApart start end ws → LiesOnce t ws
lies_once t start end [] h = tt
lies_once t start end (w ∷ ws) h = (
  λ is. let under : t < w.until = ltb-true _ _ (and_parts _ _ is).1 in not_before_start t w.until end ws under h.3,
  lies_once t w.until end ws h.3,
)

counts_outside : (ws : List Window) (t : ℕ) (ts : List ℕ) → AllByRecursion (λ (v : Window). is_within t v ≡ false) ws → counts ws (t ∷ ts) ≡ counts ws ts
counts_outside [] t ts h = refl
counts_outside (w ∷ ws) t ts h =
    let none : 0 + count_by (λ u. is_within u w) ts ≡ count_by (λ u. is_within u w) ts = omega arith in
    let here : count_by (λ u. is_within u w) (t ∷ ts) ≡ count_by (λ u. is_within u w) ts = count_by-cons (λ u. is_within u w) t ts ∙ ap (λ b. cond b 1 0 + count_by (λ u. is_within u w) ts) h.0 ∙ none in
    λ i. here i ∷ counts_outside ws t ts h.1 i

-- one more at this index
abbrev more_at : List ℕ → ℕ → List ℕ
more_at bs n = slice_set bs n (option_map_or (λ (m : ℕ). m + 1) (slice_get bs n) 0)

counts_more : (ws : List Window) (t : ℕ) (ts : List ℕ) → LiesOnce t ws → counts ws (t ∷ ts) ≡ more_at (counts ws ts) (position_or_len (is_within t) ws)
counts_more [] t ts h = refl
counts_more (w ∷ ws) t ts h =
    let c : ℕ = count_by (λ u. is_within u w) ts in
    let n : ℕ = position_or_len (is_within t) ws in
    let later : 1 + n ≡ suc n = omega arith in
    let one : 1 + c ≡ c + 1 = omega arith in
    let none : 0 + c ≡ c = omega arith in
    ap (λ m. m ∷ counts ws (t ∷ ts)) (count_by-cons (λ u. is_within u w) t ts)
    ∙ (elim (is_within t w) as (λ b. (b ≡ true → AllByRecursion (λ (v : Window). is_within t v ≡ false) ws) → (cond b 1 0 + c) ∷ counts ws (t ∷ ts) ≡ more_at (c ∷ counts ws ts) (cond (not b) (1 + n) 0)) [
      | true ↦ λ outside. λ i. one i ∷ counts_outside ws t ts (outside refl) i
      | false ↦ λ outside. (λ i. none i ∷ counts_more ws t ts h.1 i) ∙ ap (λ m. more_at (c ∷ counts ws ts) m) (sym later)
    ] h.0)

set_beyond : (bs : List ℕ) (n v : ℕ) → length bs ≤ n → slice_set bs n v ≡ bs
set_beyond [] n v le = refl
set_beyond (b ∷ bs) zero v le = absurd (omega (arith, le))
set_beyond (b ∷ bs) (suc n) v le = ap (λ cs. b ∷ cs) (set_beyond bs n v (omega (arith, le)))

raised_first : (bs : List ℕ) (n size : ℕ) → size ≡ length bs → raised bs (cond (nat_lt n size) (Some n) None) ≡ more_at bs n
raised_first bs n size e =
    elim (nat_lt n size) as (λ b. nat_lt n size ≡ b → raised bs (cond b (Some n) None) ≡ more_at bs n) [
      | true ↦ λ t. refl
      | false ↦ λ t. let le : size ≤ n = ltb-false n size t in sym (set_beyond bs n _ (omega (arith, e, le)))
    ] refl

-- one more time in its slot
pub counts-raised : (ps : List Period) (t : ℕ) (ts : List ℕ) → IsProfile ps → counts (slots ps) (t ∷ ts) ≡ raised (counts (slots ps) ts) (window_of (slots ps) t)
counts-raised ps t ts h =
    counts_more (slots ps) t ts (lies_once t (start_of ps) (end_of ps) (slots ps) (slots-apart ps h))
    ∙ sym (raised_first (counts (slots ps) ts) (position_or_len (is_within t) (slots ps)) (length (slots ps)) (sym (length-counts (slots ps) ts)))

more_less : (bs : List ℕ) (k : ℕ) → slice_set (more_at bs k) k (option_map_or (λ (n : ℕ). n - 1) (slice_get (more_at bs k) k) 0) ≡ bs
more_less [] k = refl
more_less (b ∷ bs) zero = let back : b + 1 - 1 ≡ b = omega arith in ap (λ n. n ∷ bs) back
more_less (b ∷ bs) (suc k) = ap (λ cs. b ∷ cs) (more_less bs k)

pub lowered-raised : (bs : List ℕ) (slot : Option ℕ) → lowered (raised bs slot) slot ≡ bs
lowered-raised bs None = refl
lowered-raised bs (Some k) = more_less bs k

get_other : (bs : List ℕ) (k v j : ℕ) → (j ≡ k → ⊥) → slice_get (slice_set bs k v) j ≡ slice_get bs j
get_other [] k v j apart = refl
get_other (b ∷ bs) zero v zero apart = absurd (apart refl)
get_other (b ∷ bs) zero v (suc j) apart = refl
get_other (b ∷ bs) (suc k) v zero apart = refl
get_other (b ∷ bs) (suc k) v (suc j) apart = get_other bs k v j (λ e. apart (ap suc e))

agree_set : (bs : List ℕ) (k v : ℕ) → AgreeBut bs (slice_set bs k v) k
agree_set bs k v = record {
  size = length-set bs k v;
  clear = λ j apart. ap (λ o. option_map_or (λ (n : ℕ). n == 0) o false) (get_other bs k v j apart);
}

pub agree_raised : (bs ds : List ℕ) (slot : Option ℕ) → ds ≡ raised bs slot → AgreeAt bs ds slot
agree_raised bs ds None is = is
agree_raised bs ds (Some k) is = subst (λ es. AgreeBut bs es k) (sym is) (agree_set bs k _)

pub agree_lowered : (bs ds : List ℕ) (slot : Option ℕ) → ds ≡ lowered bs slot → AgreeAt bs ds slot
agree_lowered bs ds None is = is
agree_lowered bs ds (Some k) is = subst (λ es. AgreeBut bs es k) (sym is) (agree_set bs k _)

-- no count is above the number of times
pub counts-bounded : (ws : List Window) (ts : List ℕ) (m : ℕ) → length ts < m → AllByRecursion (λ (n : ℕ). n < m) (counts ws ts)
counts-bounded [] ts m lt = tt
counts-bounded (w ∷ ws) ts m lt =
    let le : count_by (λ t. is_within t w) ts ≤ length ts = count_by-le-length (λ t. is_within t w) ts in
    (omega (arith, le, lt), counts-bounded ws ts m lt)

pub counts-none : (ws : List Window) → counts ws [] ≡ replicate (length ws) 0
counts-none [] = refl
counts-none (w ∷ ws) = ap (λ ns. 0 ∷ ns) (counts-none ws)

-- the times of flights in another order count the same
last_first : (p : ℕ → Bool) (t : ℕ) (ts : List ℕ) → count_by p (ts ++ t ∷ []) ≡ count_by p (t ∷ ts)
last_first p t [] = refl
last_first p t (u ∷ ts) =
    count_by-cons p u (ts ++ t ∷ [])
    ∙ ap (λ n. cond (p u) 1 0 + n) (last_first p t ts ∙ count_by-cons p t ts)
    ∙ swapped (cond (p u) 1 0) (cond (p t) 1 0) (count_by p ts)
    ∙ sym (count_by-cons p t (u ∷ ts) ∙ ap (λ n. cond (p t) 1 0 + n) (count_by-cons p u ts))

counts_last : (ws : List Window) (t : ℕ) (ts : List ℕ) → counts ws (ts ++ t ∷ []) ≡ counts ws (t ∷ ts)
counts_last [] t ts = refl
counts_last (w ∷ ws) t ts = λ i. last_first (λ u. is_within u w) t ts i ∷ counts_last ws t ts i

-- the times of the first flights, and of one more
times_step : (i : ℕ) (fs : List (Comp × Standing)) (f : Comp × Standing) → i < length fs → f ≡ get_or fs i f → times_in (take (suc i) fs) ≡ times_in (take i fs) ++ cons_option (time_of f.1) []
times_step i [] f lt is = absurd (omega (arith, lt))
times_step zero (g ∷ fs) f lt is = ap (λ (h : Comp × Standing). cons_option (time_of h.1) []) (sym is)
times_step (suc i) (g ∷ fs) f lt is =
    elim (time_of g.1) as (λ (o : Option ℕ). cons_option o (times_in (take (suc i) fs)) ≡ cons_option o (times_in (take i fs)) ++ cons_option (time_of f.1) []) [
      | None ↦ times_step i fs f (omega (arith, lt)) is
      | Some t ↦ ap (λ ts. t ∷ ts) (times_step i fs f (omega (arith, lt)) is)
    ]

pub counts_next : (ps : List Period) (i : ℕ) (fs : List (Comp × Standing)) (f : Comp × Standing) → IsProfile ps → i < length fs → f ≡ get_or fs i f → raised (counts (slots ps) (times_in (take i fs))) (option_and_then (window_of (slots ps)) (time_of f.1)) ≡ counts (slots ps) (times_in (take (i + 1) fs))
counts_next ps i fs f valid lt is =
    let ts : List ℕ = times_in (take i fs) in
    let next : i + 1 ≡ suc i = omega arith in
    let more : times_in (take (i + 1) fs) ≡ ts ++ cons_option (time_of f.1) [] = ap (λ n. times_in (take n fs)) next ∙ times_step i fs f lt is in
    (elim (time_of f.1) as (λ (o : Option ℕ). raised (counts (slots ps) ts) (option_and_then (window_of (slots ps)) o) ≡ counts (slots ps) (ts ++ cons_option o [])) [
      | None ↦ ap (counts (slots ps)) (sym (append-nil ts))
      | Some t ↦ sym (counts-raised ps t ts valid) ∙ sym (counts_last (slots ps) t ts)
    ])
    ∙ ap (counts (slots ps)) (sym more)

length-cons_option : (o : Option ℕ) (ts : List ℕ) (n : ℕ) → length ts ≤ n → length (cons_option o ts) ≤ suc n
length-cons_option None ts n le = omega (arith, le)
length-cons_option (Some t) ts n le = omega (arith, le)

pub times_few : (i : ℕ) (fs : List (Comp × Standing)) → length (times_in (take i fs)) ≤ i
times_few zero fs = omega arith
times_few (suc i) [] = omega arith
times_few (suc i) (f ∷ fs) = length-cons_option (time_of f.1) (times_in (take i fs)) i (times_few i fs)

-- in all slots together lie no more times than there are
pub counts-sum : (ps : List Period) (ts : List ℕ) → IsProfile ps → sum (counts (slots ps) ts) ≤ length ts
counts-sum ps [] valid =
    let none : sum (counts (slots ps) []) ≡ 0 = ap sum (counts-none (slots ps)) ∙ sum_zeros (length (slots ps)) in
    omega (arith, none)
counts-sum ps (t ∷ ts) valid =
    let rest : sum (counts (slots ps) ts) ≤ length ts = counts-sum ps ts valid in
    let more : sum (raised (counts (slots ps) ts) (window_of (slots ps) t)) ≤ sum (counts (slots ps) ts) + 1 = sum_raised (counts (slots ps) ts) (window_of (slots ps) t) in
    let is : sum (counts (slots ps) (t ∷ ts)) ≡ sum (raised (counts (slots ps) ts) (window_of (slots ps) t)) = ap sum (counts-raised ps t ts valid) in
    omega (arith, rest, more, is)
