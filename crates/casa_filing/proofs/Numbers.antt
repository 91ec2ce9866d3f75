-- bytes read as big-endian numbers, and names filled up with zeros, are ordered as the bytes are
use Rattle.std.proofs.Common.{◌≡◌, ℕ, zero, suc, ◌+◌, ◌-◌, ◌*◌, ◌<◌, List, [], ◌∷◌, ◌++◌, length, take, drop, replicate, get_or, true, nat_eq, nat_lt, refl, sym, ap, ◌∙◌, arith, true≢false}
use mathlib.Core.Bool.{◌||◌, ◌&&◌}
use Rattle.std.specs.List.{list_all}
use Rattle.std.specs.declared.cmp.Ordering.{Ordering}
use Rattle.std.specs.declared.cmp.Ordering.TheVariants.{Less, Equal, Greater}
use Rattle.std.specs.Ordering.{nat_cmp, ordering_then, is_eq, is_lt, MatchOrdering}
use Rattle.std.specs.Cmp.{ranks, unsigned_ties}
use Rattle.std.specs.Cmp.Lexicographic.{pointwise, slice_cmp, texts_ties}
use Rattle.std.specs.Slice.Scan.{big_endian}
use Rattle.std.proofs.lemmas.Bool.{and_parts, lt-ltb, le-ltb}
use Rattle.std.proofs.lemmas.List.{take-append-drop, length-take-le, length-drop}
use Rattle.casa_filing.specs.Text.{is_name_byte, is_name}
use Rattle.casa_filing.specs.NameInside.{IsInside}
use Rattle.casa_filing.specs.declared.name.Name.TheInside.{Inside}

-- ---- two numbers, by how they lie
less_by : (x y : ℕ) (r : Ordering) → MatchOrdering r (x < y) (x ≡ y) (y < x) → x < y → r ≡ Less
less_by x y Less h l = refl
less_by x y Equal h l = let e : x ≡ y = h in absurd (omega arith)
less_by x y Greater h l = let e : y < x = h in absurd (omega arith)

greater_by : (x y : ℕ) (r : Ordering) → MatchOrdering r (x < y) (x ≡ y) (y < x) → y < x → r ≡ Greater
greater_by x y Less h l = let e : x < y = h in absurd (omega arith)
greater_by x y Equal h l = let e : x ≡ y = h in absurd (omega arith)
greater_by x y Greater h l = refl

equal_by : (x y : ℕ) (r : Ordering) → MatchOrdering r (x < y) (x ≡ y) (y < x) → x ≡ y → r ≡ Equal
equal_by x y Less h l = let e : x < y = h in absurd (omega arith)
equal_by x y Equal h l = refl
equal_by x y Greater h l = let e : y < x = h in absurd (omega arith)

less : (x y : ℕ) → x < y → nat_cmp x y ≡ Less
less x y l = less_by x y (nat_cmp x y) (ranks x y) l

greater : (x y : ℕ) → y < x → nat_cmp x y ≡ Greater
greater x y l = greater_by x y (nat_cmp x y) (ranks x y) l

equal : (x y : ℕ) → x ≡ y → nat_cmp x y ≡ Equal
equal x y l = equal_by x y (nat_cmp x y) (ranks x y) l

-- ---- bytes as numbers
abbrev pub AreBytes : List ℕ → Type 0
AreBytes xs = (i : ℕ) → get_or xs i 0 < 256

rises : (n m : ℕ) (xs ys : List ℕ) → length xs ≡ length ys → AreBytes xs → n < m → big_endian n xs < big_endian m ys
rises n m [] [] e h l = l
rises n m [] (y ∷ ys) e h l = absurd (omega (arith, e))
rises n m (x ∷ xs) [] e h l = absurd (omega (arith, e))
rises n m (x ∷ xs) (y ∷ ys) e h l =
    let small : x < 256 = h 0 in
    rises (n * 256 + x) (m * 256 + y) xs ys (omega (arith, e)) (λ i. h (suc i)) (omega arith)

pub spelt : (n : ℕ) (xs ys : List ℕ) → length xs ≡ length ys → AreBytes xs → AreBytes ys → nat_cmp (big_endian n xs) (big_endian n ys) ≡ slice_cmp nat_cmp xs ys
spelt n [] [] e g h = equal n n refl
spelt n [] (y ∷ ys) e g h = absurd (omega (arith, e))
spelt n (x ∷ xs) [] e g h = absurd (omega (arith, e))
spelt n (x ∷ xs) (y ∷ ys) e g h = by (spelt (n * 256 + x) xs ys (omega (arith, e)) (λ i. g (suc i)) (λ i. h (suc i))) (nat_cmp x y) refl (ranks x y)
  where
    by : nat_cmp (big_endian (n * 256 + x) xs) (big_endian (n * 256 + x) ys) ≡ slice_cmp nat_cmp xs ys → (r : Ordering) → nat_cmp x y ≡ r → MatchOrdering r (x < y) (x ≡ y) (y < x) → nat_cmp (big_endian (n * 256 + x) xs) (big_endian (n * 256 + y) ys) ≡ slice_cmp nat_cmp (x ∷ xs) (y ∷ ys)
    by rest Less q l =
        let under : x < y = l in
        less _ _ (rises (n * 256 + x) (n * 256 + y) xs ys (omega (arith, e)) (λ i. g (suc i)) (omega arith)) ∙ sym (ap (λ r. ordering_then r (slice_cmp nat_cmp xs ys)) q)
    by rest Greater q l =
        let over : y < x = l in
        greater _ _ (rises (n * 256 + y) (n * 256 + x) ys xs (omega (arith, e)) (λ i. h (suc i)) (omega arith)) ∙ sym (ap (λ r. ordering_then r (slice_cmp nat_cmp xs ys)) q)
    by rest Equal q l =
        let level : y ≡ x = sym l in
        ap (λ z. nat_cmp (big_endian (n * 256 + x) xs) (big_endian (n * 256 + z) ys)) level
        ∙ rest
        ∙ sym (ap (λ r. ordering_then r (slice_cmp nat_cmp xs ys)) q)

-- ---- lists cut at one place
in_turn : (a b c : Ordering) → ordering_then a (ordering_then b c) ≡ ordering_then (ordering_then a b) c
in_turn Less b c = refl
in_turn Equal b c = refl
in_turn Greater b c = refl

cut : (n : ℕ) (xs ys : List ℕ) → length xs ≡ length ys → slice_cmp nat_cmp xs ys ≡ ordering_then (slice_cmp nat_cmp (take n xs) (take n ys)) (slice_cmp nat_cmp (drop n xs) (drop n ys))
cut zero xs ys e = refl
cut (suc n) [] [] e = refl
cut (suc n) [] (y ∷ ys) e = absurd (omega (arith, e))
cut (suc n) (x ∷ xs) [] e = absurd (omega (arith, e))
cut (suc n) (x ∷ xs) (y ∷ ys) e =
    ap (ordering_then (nat_cmp x y)) (cut n xs ys (omega (arith, e)))
    ∙ in_turn (nat_cmp x y) (slice_cmp nat_cmp (take n xs) (take n ys)) (slice_cmp nat_cmp (drop n xs) (drop n ys))

taken : (n : ℕ) (xs : List ℕ) → AreBytes xs → AreBytes (take n xs)
taken zero xs h = λ i. omega arith
taken (suc n) [] h = λ i. omega arith
taken (suc n) (x ∷ xs) h = by (taken n xs (λ k. h (suc k)))
  where
    by : AreBytes (take n xs) → (i : ℕ) → get_or (take (suc n) (x ∷ xs)) i 0 < 256
    by rest zero = h 0
    by rest (suc i) = rest i

dropped : (n : ℕ) (xs : List ℕ) → AreBytes xs → AreBytes (drop n xs)
dropped zero xs h = h
dropped (suc n) [] h = λ i. omega arith
dropped (suc n) (x ∷ xs) h = dropped n xs (λ k. h (suc k))

-- ten bytes are ordered as the numbers of the first eight and of the last two
pub two_numbers : (xs ys : List ℕ) → length xs ≡ 10 → length ys ≡ 10 → AreBytes xs → AreBytes ys
    → ordering_then (nat_cmp (big_endian 0 (take 8 xs)) (big_endian 0 (take 8 ys))) (nat_cmp (big_endian 0 (drop 8 xs)) (big_endian 0 (drop 8 ys))) ≡ slice_cmp nat_cmp xs ys
two_numbers xs ys a b g h =
    let front : length (take 8 xs) ≡ length (take 8 ys) = length-take-le 8 xs (omega (arith, a)) ∙ sym (length-take-le 8 ys (omega (arith, b))) in
    let back : length (drop 8 xs) ≡ length (drop 8 ys) = length-drop 8 xs ∙ omega (arith, a, b) ∙ sym (length-drop 8 ys) in
    ap (λ r. ordering_then r (nat_cmp (big_endian 0 (drop 8 xs)) (big_endian 0 (drop 8 ys)))) (spelt 0 (take 8 xs) (take 8 ys) front (taken 8 xs g) (taken 8 ys h))
    ∙ ap (ordering_then (slice_cmp nat_cmp (take 8 xs) (take 8 ys))) (spelt 0 (drop 8 xs) (drop 8 ys) back (dropped 8 xs g) (dropped 8 ys h))
    ∙ sym (cut 8 xs ys (a ∙ sym b))

-- what comes first decides, where it does
pub by_first : (r s q : Ordering) → (r ≡ Equal → ⊥) → ordering_then r s ≡ q → r ≡ q
by_first Less s q tied e = e
by_first Greater s q tied e = e
by_first Equal s q tied e = absurd (tied refl)

lt_by : (x y : ℕ) (r : Ordering) → MatchOrdering r (x < y) (x ≡ y) (y < x) → nat_lt x y ≡ is_lt r
lt_by x y Less l = lt-ltb x y l
lt_by x y Equal e = le-ltb x y (omega (arith, e))
lt_by x y Greater g = le-ltb x y (omega (arith, g))

by_both : (r s : Ordering) → (is_lt r || (is_eq r && is_lt s)) ≡ is_lt (ordering_then r s)
by_both Less s = refl
by_both Equal s = refl
by_both Greater s = refl

-- a pair of numbers comes before another by the firsts, or by the seconds where the firsts are the same
pub pair_before : (a b c d : ℕ) → (nat_lt a b || (nat_eq a b && nat_lt c d)) ≡ is_lt (ordering_then (nat_cmp a b) (nat_cmp c d))
pair_before a b c d =
    (λ i. lt_by a b (nat_cmp a b) (ranks a b) i || (unsigned_ties a b i && lt_by c d (nat_cmp c d) (ranks c d) i))
    ∙ by_both (nat_cmp a b) (nat_cmp c d)

-- where the first numbers are the same, the second tell whether the bytes are
pub same_by_second : (xs ys : List ℕ) → length xs ≡ 10 → length ys ≡ 10 → AreBytes xs → AreBytes ys → big_endian 0 (take 8 xs) ≡ big_endian 0 (take 8 ys)
    → nat_eq (big_endian 0 (drop 8 xs)) (big_endian 0 (drop 8 ys)) ≡ pointwise nat_eq xs ys
same_by_second xs ys a b g h e =
    unsigned_ties _ _
    ∙ ap (λ r. is_eq (ordering_then r (nat_cmp (big_endian 0 (drop 8 xs)) (big_endian 0 (drop 8 ys))))) (sym (equal _ _ e))
    ∙ ap is_eq (two_numbers xs ys a b g h)
    ∙ sym (texts_ties xs ys)

-- ---- letters, filled up with zeros
level : (xs : List ℕ) → slice_cmp nat_cmp xs xs ≡ Equal
level [] = refl
level (x ∷ xs) = ap (λ r. ordering_then r (slice_cmp nat_cmp xs xs)) (equal x x refl) ∙ level xs

above_zero : (b : ℕ) → is_name_byte b ≡ true → 0 < b
above_zero zero h = absurd (true≢false (sym h))
above_zero (suc b) h = omega arith

filled : (k l : ℕ) (t u : List ℕ) → list_all is_name_byte t ≡ true → list_all is_name_byte u ≡ true → length t + k ≡ length u + l
    → slice_cmp nat_cmp (t ++ replicate k 0) (u ++ replicate l 0) ≡ slice_cmp nat_cmp t u
filled k l [] [] g h e =
    let same : l ≡ k = omega (arith, e) in
    ap (λ m. slice_cmp nat_cmp (replicate k 0) (replicate m 0)) same ∙ level (replicate k 0)
filled zero l [] (y ∷ ys) g h e = absurd (omega (arith, e))
filled (suc k) l [] (y ∷ ys) g h e =
    ap (λ r. ordering_then r (slice_cmp nat_cmp (replicate k 0) (ys ++ replicate l 0))) (less 0 y (above_zero y (and_parts _ _ h).0))
filled k zero (x ∷ xs) [] g h e = absurd (omega (arith, e))
filled k (suc l) (x ∷ xs) [] g h e =
    ap (λ r. ordering_then r (slice_cmp nat_cmp (xs ++ replicate k 0) (replicate l 0))) (greater x 0 (above_zero x (and_parts _ _ g).0))
filled k l (x ∷ xs) (y ∷ ys) g h e =
    ap (ordering_then (nat_cmp x y)) (filled k l xs ys (and_parts _ _ g).1 (and_parts _ _ h).1 (omega (arith, e)))

whole : {Kind : Type 0} (n : Inside Kind) → IsInside n → n.bytes ≡ take n.len n.bytes ++ replicate (10 - n.len) 0
whole n h = sym (take-append-drop n.len n.bytes) ∙ ap (λ r. take n.len n.bytes ++ r) h.rest

letters : (t : List ℕ) → is_name t ≡ true → list_all is_name_byte t ≡ true
letters t h = (and_parts _ _ (and_parts _ _ h).1).1

-- names are ordered as their arrays are
pub names_cmp : {Kind : Type 0} (n m : Inside Kind) → IsInside n → IsInside m → slice_cmp nat_cmp n.bytes m.bytes ≡ slice_cmp nat_cmp (take n.len n.bytes) (take m.len m.bytes)
names_cmp n m g h =
    let one : length (take n.len n.bytes) ≡ n.len = length-take-le n.len n.bytes (omega (arith, g.few, g.size)) in
    let other : length (take m.len m.bytes) ≡ m.len = length-take-le m.len m.bytes (omega (arith, h.few, h.size)) in
    (λ i. slice_cmp nat_cmp (whole n g i) (whole m h i))
    ∙ filled (10 - n.len) (10 - m.len) (take n.len n.bytes) (take m.len m.bytes) (letters (take n.len n.bytes) g.name) (letters (take m.len m.bytes) h.name) (omega (arith, one, other, g.few, h.few))

pub names_eq : {Kind : Type 0} (n m : Inside Kind) → IsInside n → IsInside m → pointwise nat_eq n.bytes m.bytes ≡ pointwise nat_eq (take n.len n.bytes) (take m.len m.bytes)
names_eq n m g h = texts_ties n.bytes m.bytes ∙ ap is_eq (names_cmp n m g h) ∙ sym (texts_ties (take n.len n.bytes) (take m.len m.bytes))
