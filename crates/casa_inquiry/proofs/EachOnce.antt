-- every time from the start on lies in exactly one step
use Rattle.std.proofs.Common.{◌≡◌, ℕ, zero, suc, ◌+◌, ◌-◌, ◌*◌, ◌/◌, ◌%◌, ◌<◌, ◌≤◌, ◌∙◌, sym, ap, refl, subst, List, [], ◌∷◌, length, map, min, Bool, true, false, cond, ◌&&◌, nat_le, nat_lt, Some, arith}
use Rattle.std.specs.Prelude.{All, count_by, sum_by}
use Rattle.std.specs.List.{range_with_len}
use Rattle.std.specs.Int.{div_ceil}
use Rattle.std.proofs.Math.Nat.{div-add-mod, mod-lt}
use Rattle.std.proofs.lemmas.Bool.{ltb-true, ltb-false, leb-true, leb-false, lt-ltb, le-ltb, le-leb, lt-leb}
use Rattle.std.proofs.lemmas.List.Elements.{All-cons, All-head, All-nil, All-tail, All-weaker}
use Rattle.std.proofs.lemmas.List.FromFn.{sum_by-map-range_with_len_more}
use Rattle.std.proofs.lemmas.List.Sums.{sum_by-cons, sum_by_push}
use Rattle.casa_grid.specs.declared.period.Period.{Period}
use Rattle.casa_grid.specs.declared.slot.Window.{Window}
use Rattle.casa_grid.specs.Profile.{IsProfile, start_of, end_of}
use Rattle.casa_grid.specs.Slots.{slots}
use Rattle.casa_grid.proofs.Slots.{slots-apart}
use Rattle.casa_grid.proofs.Windows.{AreApart, apart_from}
use Rattle.casa_inquiry.specs.declared.load.Span.{Span}
use Rattle.casa_inquiry.specs.Load.{begins, is_in, span_after, span_at, spans, step_count, step_secs}

-- ---- how many pass a test
count_cons : {X : Type 0} (p : X → Bool) (x : X) (xs : List X) → count_by p (x ∷ xs) ≡ cond (p x) 1 0 + count_by p xs
count_cons p x xs = sum_by-cons (λ y. cond (p y) 1 0) x xs

add_parts : (a b c l m n : ℕ) → a + b ≡ c → l + m ≡ n → (a + l) + (b + m) ≡ c + n
add_parts a b c l m n h t = omega arith

both_cons : {X : Type 0} (p q : X → Bool) (x : X) (xs : List X) (c n : ℕ) → cond (p x) 1 0 + cond (q x) 1 0 ≡ c → count_by p xs + count_by q xs ≡ n → count_by p (x ∷ xs) + count_by q (x ∷ xs) ≡ c + n
both_cons p q x xs c n here rest =
    ap (λ m. m + count_by q (x ∷ xs)) (count_cons p x xs) ∙ ap (λ m. (cond (p x) 1 0 + count_by p xs) + m) (count_cons q x xs)
    ∙ add_parts (cond (p x) 1 0) (cond (q x) 1 0) c (count_by p xs) (count_by q xs) n here rest

count_parts : {X : Type 0} (p q r : X → Bool) → ((x : X) → cond (p x) 1 0 + cond (q x) 1 0 ≡ cond (r x) 1 0) → (xs : List X) → count_by p xs + count_by q xs ≡ count_by r xs
count_parts p q r each [] = refl
count_parts p q r each (x ∷ xs) = both_cons p q x xs (cond (r x) 1 0) (count_by r xs) (each x) (count_parts p q r each xs) ∙ sym (count_cons r x xs)

count_all : {X : Type 0} (p q : X → Bool) (xs : List X) → All (λ x. cond (p x) 1 0 + cond (q x) 1 0 ≡ 1) xs → count_by p xs + count_by q xs ≡ length xs
count_all p q [] all = refl
count_all {X} p q (x ∷ xs) all =
    let P : X → Type 0 = λ y. cond (p y) 1 0 + cond (q y) 1 0 ≡ 1 in
    both_cons p q x xs 1 (length xs) (All-head P x xs all) (count_all p q xs (All-tail P x xs all)) ∙ plus (length xs)
  where
    plus : (n : ℕ) → 1 + n ≡ suc n
    plus n = omega arith

count_none : {X : Type 0} (p : X → Bool) → ((x : X) → p x ≡ false) → (xs : List X) → count_by p xs ≡ 0
count_none p none [] = refl
count_none p none (x ∷ xs) = count_cons p x xs ∙ (ap (λ b. cond b 1 0 + count_by p xs) (none x) ∙ (nothing (count_by p xs) ∙ count_none p none xs))
  where
    nothing : (n : ℕ) → 0 + n ≡ n
    nothing n = omega arith

pub sum_mapped : {X Y : Type 0} (g : Y → ℕ) (h : X → Y) (xs : List X) → sum_by g (map h xs) ≡ sum_by (λ x. g (h x)) xs
sum_mapped g h [] = refl
sum_mapped g h (x ∷ xs) = sum_by-cons g (h x) (map h xs) ∙ (ap (λ n. g (h x) + n) (sum_mapped g h xs) ∙ sym (sum_by-cons (λ y. g (h y)) x xs))

-- ---- a time, and spans that meet
false_is_true : false ≡ true → ⊥
false_is_true e = absurd (cc)

join : (a b c d : Bool) → (b ≡ true → d ≡ true) → (c ≡ true → a ≡ true) → (b ≡ true → c ≡ false) → (b ≡ false → c ≡ false → d ≡ false)
    → cond (a && b) 1 0 + cond (c && d) 1 0 ≡ cond (a && d) 1 0
join false b true d one two three four = absurd (false_is_true (two refl))
join false true false d one two three four = refl
join false false false d one two three four = refl
join true true true d one two three four = absurd (false_is_true (sym (three refl)))
join true true false true one two three four = refl
join true true false false one two three four = absurd (false_is_true (one refl))
join true false true true one two three four = refl
join true false true false one two three four = refl
join true false false true one two three four = absurd (false_is_true (sym (four refl refl)))
join true false false false one two three four = refl

-- from s to before a, and from there to before b, where all ends with e
joined : (s a b e t : ℕ) → s ≤ a → a ≤ b
    → cond (nat_le s t && nat_lt t (min a e)) 1 0 + cond (nat_le a t && nat_lt t (min b e)) 1 0 ≡ cond (nat_le s t && nat_lt t (min b e)) 1 0
joined s a b e t begins goes =
    join (nat_le s t) (nat_lt t (min a e)) (nat_le a t) (nat_lt t (min b e))
    (λ h. lt-ltb t (min b e) (omega (arith, goes, ltb-true t (min a e) h)))
    (λ h. le-leb s t (omega (arith, begins, leb-true a t h)))
    (λ h. lt-leb a t (omega (arith, ltb-true t (min a e) h)))
    (λ h k. le-ltb t (min b e) (omega (arith, ltb-false t (min a e) h, leb-false a t k)))

parted : (a b c : Bool) → a ≡ true → (b ≡ true → c ≡ false) → (b ≡ false → c ≡ true) → cond (a && b) 1 0 + cond (c && true) 1 0 ≡ 1
parted false b c one two three = absurd (false_is_true one)
parted true true true one two three = absurd (false_is_true (sym (two refl)))
parted true true false one two three = refl
parted true false true one two three = refl
parted true false false one two three = absurd (false_is_true (three refl))

before_or_after : (s e t : ℕ) → s ≤ t → cond (nat_le s t && nat_lt t e) 1 0 + cond (nat_le e t && true) 1 0 ≡ 1
before_or_after s e t begins =
    parted (nat_le s t) (nat_lt t e) (nat_le e t) (le-leb s t begins) (λ h. lt-leb e t (ltb-true t e h)) (λ h. le-leb e t (ltb-false t e h))

never : (a b : Bool) → (a ≡ true → b ≡ false) → (a && b) ≡ false
never false b h = refl
never true b h = h refl

-- ---- the steps reach the end
reach : (q r x y : ℕ) → y * q + r ≡ x → r < y → x ≤ (q + min 1 r) * y
reach q zero x y whole small = grind arith
reach q (suc r) x y whole small = grind arith

reaches : (span secs : ℕ) → 0 < secs → span ≤ div_ceil span secs * secs
reaches span secs some = reach (span / secs) (span % secs) span secs (div-add-mod span secs) (mod-lt span some)

longer : (k secs : ℕ) → k * secs ≤ (k + 1) * secs
longer k secs = grind arith

module _ {X : Type 0} (time : X → ℕ) (xs : List X) (ps : List Period) (secs : ℕ) where
  -- how many have their time in a span
  abbrev among : Span → ℕ
  among span = count_by (λ (x : X). is_in span (time x)) xs

  abbrev first_steps : ℕ → Span
  first_steps k = record { from = start_of ps; until = Some (min (start_of ps + k * secs) (end_of ps)) }

  none_yet : (x : X) → is_in (first_steps 0) (time x) ≡ false
  none_yet x =
      never (nat_le (start_of ps) (time x)) (nat_lt (time x) (min (start_of ps + 0 * secs) (end_of ps)))
      (λ h. le-ltb (time x) (min (start_of ps + 0 * secs) (end_of ps)) (omega (arith, leb-true (start_of ps) (time x) h)))

  one_step : (k : ℕ) → sum_by among (map (span_at ps secs) (range_with_len 0 k)) ≡ among (first_steps k)
      → sum_by among (map (span_at ps secs) (range_with_len 0 (k + 1))) ≡ among (first_steps (k + 1))
  one_step k h =
      sum_by-map-range_with_len_more among (span_at ps secs) 0 k k (omega arith)
      ∙ (ap (λ n. n + among (span_at ps secs k)) h
      ∙ count_parts (λ (x : X). is_in (first_steps k) (time x)) (λ (x : X). is_in (span_at ps secs k) (time x)) (λ (x : X). is_in (first_steps (k + 1)) (time x))
      (λ x. joined (start_of ps) (start_of ps + k * secs) (start_of ps + (k + 1) * secs) (end_of ps) (time x) (omega arith) (omega (arith, longer k secs))) xs)

  so_many : (k : ℕ) → sum_by among (map (span_at ps secs) (range_with_len 0 k)) ≡ among (first_steps k)
  so_many zero = sym (count_none (λ (x : X). is_in (first_steps 0) (time x)) none_yet xs)
  so_many (suc k) = subst (λ n. sum_by among (map (span_at ps secs) (range_with_len 0 n)) ≡ among (first_steps n)) (next k) (one_step k (so_many k))
    where
      next : (n : ℕ) → n + 1 ≡ suc n
      next n = omega arith

-- so each is in one of the steps, or behind them
pub each_once : {X : Type 0} (time : X → ℕ) (xs : List X) (ps : List Period) (minutes : ℕ) → All (λ (x : X). start_of ps ≤ time x) xs
    → sum_by (λ (span : Span). count_by (λ (x : X). is_in span (time x)) xs) (spans ps minutes) ≡ length xs
each_once {X} time xs ps minutes late =
    let secs : ℕ = step_secs minutes in
    let count : ℕ = step_count ps secs in
    let some : 0 < secs = omega arith in
    let reached : min (start_of ps + count * secs) (end_of ps) ≡ end_of ps = omega (arith, reaches (end_of ps - start_of ps) secs some) in
    let until : ℕ → Span = λ u. record { from = start_of ps; until = Some u } in
    sum_by_push (among time xs ps secs) (map (span_at ps secs) (range_with_len 0 count)) (span_after ps)
    ∙ (ap (λ n. n + among time xs ps secs (span_after ps)) (so_many time xs ps secs count ∙ ap (λ u. among time xs ps secs (until u)) reached)
    ∙ count_all (λ (x : X). is_in (until (end_of ps)) (time x)) (λ (x : X). is_in (span_after ps) (time x)) xs
    (All-weaker (λ (x : X). start_of ps ≤ time x) (λ (x : X). cond (is_in (until (end_of ps)) (time x)) 1 0 + cond (is_in (span_after ps) (time x)) 1 0 ≡ 1)
    (λ x. before_or_after (start_of ps) (end_of ps) (time x)) xs late))

late_begins : (start end : ℕ) (ws : List Window) → AreApart start end ws → All (λ (t : ℕ). start ≤ t) (map (λ (w : Window). w.begin) ws)
late_begins start end [] h = All-nil (λ (t : ℕ). start ≤ t)
late_begins start end (w ∷ ws) h =
    All-cons (λ (t : ℕ). start ≤ t) w.begin (map (λ (v : Window). v.begin) ws) h.0
    (late_begins start end ws (apart_from start w.until end ws (omega (arith, h.0, h.1)) h.3))

-- no slot begins before the start
pub begins_late : (ps : List Period) → IsProfile ps → All (λ (t : ℕ). start_of ps ≤ t) (begins ps)
begins_late ps h = late_begins (start_of ps) (end_of ps) (slots ps) (slots-apart ps h)
