-- a row in two parts, once an element is put into one of them or taken out
use Rattle.std.proofs.Common.{◌≡◌, ℕ, ◌+◌, ◌<◌, ◌≤◌, List, [], ◌∷◌, length, take, drop, refl, sym, ◌∙◌, ap, arith, zero, suc}
use Rattle.std.specs.List.{All, insert, remove}
use Rattle.std.proofs.lemmas.List.Elements.{All-append, All-cons, All-take, All-drop}

-- in the first n
take_put : {X : Type 0} (n i : ℕ) (xs : List X) (x : X) → i ≤ n → n ≤ length xs → take (suc n) (insert xs i x) ≡ insert (take n xs) i x
take_put n zero xs x le in_all = refl
take_put n (suc i) [] x le in_all = absurd (omega (arith, le, in_all))
take_put zero (suc i) (y ∷ xs) x le in_all = absurd (omega (arith, le))
take_put (suc n) (suc i) (y ∷ xs) x le in_all = ap (λ ys. y ∷ ys) (take_put n i xs x (omega (arith, le)) (omega (arith, in_all)))

drop_put : {X : Type 0} (n i : ℕ) (xs : List X) (x : X) → i ≤ n → n ≤ length xs → drop (suc n) (insert xs i x) ≡ drop n xs
drop_put n zero xs x le in_all = refl
drop_put n (suc i) [] x le in_all = absurd (omega (arith, le, in_all))
drop_put zero (suc i) (y ∷ xs) x le in_all = absurd (omega (arith, le))
drop_put (suc n) (suc i) (y ∷ xs) x le in_all = drop_put n i xs x (omega (arith, le)) (omega (arith, in_all))

pub take-put_front : {X : Type 0} (m n i : ℕ) (xs : List X) (x : X) → m ≡ n + 1 → i ≤ n → n ≤ length xs → take m (insert xs i x) ≡ insert (take n xs) i x
take-put_front m n i xs x is le in_all =
    let e : m ≡ suc n = omega (arith, is) in
    ap (λ k. take k (insert xs i x)) e ∙ take_put n i xs x le in_all

pub drop-put_front : {X : Type 0} (m n i : ℕ) (xs : List X) (x : X) → m ≡ n + 1 → i ≤ n → n ≤ length xs → drop m (insert xs i x) ≡ drop n xs
drop-put_front m n i xs x is le in_all =
    let e : m ≡ suc n = omega (arith, is) in
    ap (λ k. drop k (insert xs i x)) e ∙ drop_put n i xs x le in_all

take_out : {X : Type 0} (m i : ℕ) (xs : List X) → i ≤ m → m < length xs → take m (remove xs i) ≡ remove (take (suc m) xs) i
take_out m i [] le in_all = absurd (omega (arith, in_all))
take_out m zero (y ∷ xs) le in_all = refl
take_out zero (suc i) (y ∷ xs) le in_all = absurd (omega (arith, le))
take_out (suc m) (suc i) (y ∷ xs) le in_all = ap (λ ys. y ∷ ys) (take_out m i xs (omega (arith, le)) (omega (arith, in_all)))

drop_out : {X : Type 0} (m i : ℕ) (xs : List X) → i ≤ m → m < length xs → drop m (remove xs i) ≡ drop (suc m) xs
drop_out m i [] le in_all = absurd (omega (arith, in_all))
drop_out m zero (y ∷ xs) le in_all = refl
drop_out zero (suc i) (y ∷ xs) le in_all = absurd (omega (arith, le))
drop_out (suc m) (suc i) (y ∷ xs) le in_all = drop_out m i xs (omega (arith, le)) (omega (arith, in_all))

pub take-out_front : {X : Type 0} (m n i : ℕ) (xs : List X) → n ≡ m + 1 → i < n → n ≤ length xs → take m (remove xs i) ≡ remove (take n xs) i
take-out_front m n i xs is lt in_all =
    let e : n ≡ suc m = omega (arith, is) in
    take_out m i xs (omega (arith, is, lt)) (omega (arith, is, in_all)) ∙ ap (λ k. remove (take k xs) i) (sym e)

pub drop-out_front : {X : Type 0} (m n i : ℕ) (xs : List X) → n ≡ m + 1 → i < n → n ≤ length xs → drop m (remove xs i) ≡ drop n xs
drop-out_front m n i xs is lt in_all =
    let e : n ≡ suc m = omega (arith, is) in
    drop_out m i xs (omega (arith, is, lt)) (omega (arith, is, in_all)) ∙ ap (λ k. drop k xs) (sym e)

-- behind the first n
pub take-put_behind : {X : Type 0} (n i : ℕ) (xs : List X) (x : X) → n ≤ length xs → take n (insert xs (n + i) x) ≡ take n xs
take-put_behind zero i xs x le = refl
take-put_behind (suc n) i [] x le = absurd (omega (arith, le))
take-put_behind (suc n) i (y ∷ xs) x le =
    let e : suc n + i ≡ suc (n + i) = omega arith in
    ap (λ k. take (suc n) (insert (y ∷ xs) k x)) e ∙ ap (λ ys. y ∷ ys) (take-put_behind n i xs x (omega (arith, le)))

pub drop-put_behind : {X : Type 0} (n i : ℕ) (xs : List X) (x : X) → n ≤ length xs → drop n (insert xs (n + i) x) ≡ insert (drop n xs) i x
drop-put_behind zero i xs x le =
    let e : zero + i ≡ i = omega arith in ap (λ k. insert xs k x) e
drop-put_behind (suc n) i [] x le = absurd (omega (arith, le))
drop-put_behind (suc n) i (y ∷ xs) x le =
    let e : suc n + i ≡ suc (n + i) = omega arith in
    ap (λ k. drop (suc n) (insert (y ∷ xs) k x)) e ∙ drop-put_behind n i xs x (omega (arith, le))

pub take-out_behind : {X : Type 0} (n i : ℕ) (xs : List X) → n ≤ length xs → take n (remove xs (n + i)) ≡ take n xs
take-out_behind zero i xs le = refl
take-out_behind (suc n) i [] le = absurd (omega (arith, le))
take-out_behind (suc n) i (y ∷ xs) le =
    let e : suc n + i ≡ suc (n + i) = omega arith in
    ap (λ k. take (suc n) (remove (y ∷ xs) k)) e ∙ ap (λ ys. y ∷ ys) (take-out_behind n i xs (omega (arith, le)))

pub drop-out_behind : {X : Type 0} (n i : ℕ) (xs : List X) → n ≤ length xs → drop n (remove xs (n + i)) ≡ remove (drop n xs) i
drop-out_behind zero i xs le =
    let e : zero + i ≡ i = omega arith in ap (λ k. remove xs k) e
drop-out_behind (suc n) i [] le = absurd (omega (arith, le))
drop-out_behind (suc n) i (y ∷ xs) le =
    let e : suc n + i ≡ suc (n + i) = omega arith in
    ap (λ k. drop (suc n) (remove (y ∷ xs) k)) e ∙ drop-out_behind n i xs (omega (arith, le))

-- what holds of each
pub All-insert : {X : Type 0} (P : X → Type 0) (xs : List X) (i : ℕ) (x : X) → P x → All P xs → All P (insert xs i x)
All-insert P xs i x px h = All-append P (take i xs) (x ∷ drop i xs) (All-take P i xs h) (All-cons P x (drop i xs) px (All-drop P i xs h))

pub All-remove : {X : Type 0} (P : X → Type 0) (xs : List X) (i : ℕ) → All P xs → All P (remove xs i)
All-remove P xs i h = All-append P (take i xs) (drop (suc i) xs) (All-take P i xs h) (All-drop P (suc i) xs h)

-- once one of the first is taken out, those before it stand as they stood, and those behind it follow
pub taken_front : {X : Type 0} (i : ℕ) (xs : List X) → i < length xs → take i (remove xs i) ≡ take i xs
taken_front i [] lt = absurd (omega (arith, lt))
taken_front zero (x ∷ xs) lt = refl
taken_front (suc i) (x ∷ xs) lt = ap (λ ys. x ∷ ys) (taken_front i xs (omega (arith, lt)))

pub taken_rest : {X : Type 0} (i : ℕ) (xs : List X) → i < length xs → drop i (remove xs i) ≡ drop (i + 1) xs
taken_rest i xs lt =
    let e : i + 1 ≡ suc i = omega arith in
    drop_out i i xs (omega arith) lt ∙ ap (λ k. drop k xs) (sym e)
