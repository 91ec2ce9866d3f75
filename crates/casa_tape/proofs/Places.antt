-- Where a byte stands first, or last.
use Rattle.std.proofs.Common.{◌≡◌, ◌≢◌, ℕ, ◌<◌, ◌==◌, true, false, List, length, get_or, take, refl, sym, ◌∙◌, subst, arith, length-take}
use Rattle.std.specs.Prelude.{Contains}
use Rattle.std.specs.List.{position_or_len}
use Rattle.std.proofs.lemmas.Bool.Decides.{nat_tests}
use Rattle.std.proofs.lemmas.List.{get_or_default, get_or-take}
use Rattle.std.proofs.lemmas.List.Sums.{position_or_len_is}
use Rattle.memchr.specs.Find.{NoneAfter, NoneBefore, Nowhere, Passes, is_byte}

passes : (a b : ℕ) → b ≡ a → (b == a) ≡ true
passes a b is = grind (arith, nat_tests)

fails : (a b : ℕ) → ((b == a) ≡ true → ⊥) → (b == a) ≡ false
fails a b not = grind (arith, nat_tests)

pub byte_is : (a b : ℕ) → (b == a) ≡ true → b ≡ a
byte_is a b is = grind (arith, nat_tests)

pub byte_is_not : (a b : ℕ) → ((b == a) ≡ true → ⊥) → b ≢ a
byte_is_not a b not is = not (passes a b is)

pub first_place : (a : ℕ) (bytes : List ℕ) (k : ℕ) → NoneBefore (Passes (is_byte a) bytes) 0 (length bytes) k × Passes (is_byte a) bytes k → position_or_len (λ b. b == a) bytes ≡ k
first_place a bytes k is =
    position_or_len_is (λ b. b == a) bytes k 0 (omega (arith, is.0.high)) (λ j lt. fails a (get_or bytes j 0) (is.0.before j (omega arith) lt)) (λ lt. is.1)

pub no_place : (a : ℕ) (bytes : List ℕ) → Nowhere (Passes (is_byte a) bytes) 0 (length bytes) → position_or_len (λ b. b == a) bytes ≡ length bytes
no_place a bytes none =
    position_or_len_is (λ b. b == a) bytes (length bytes) 0 (omega arith) (λ j lt. fails a (get_or bytes j 0) (none j (omega arith) lt)) (λ lt. absurd (omega (arith, lt)))

pub last_place : (a : ℕ) (shown bytes : List ℕ) (k : ℕ) → shown ≡ bytes → NoneAfter (Passes (is_byte a) shown) 0 (length shown) k × Passes (is_byte a) shown k
    → (k < length bytes) × (get_or bytes k 0 ≡ a) × ((j : ℕ) → k < j → j < length bytes → get_or bytes j 0 ≢ a)
last_place a shown bytes k same is =
    subst (λ (xs : List ℕ). (k < length xs) × (get_or xs k 0 ≡ a) × ((j : ℕ) → k < j → j < length xs → get_or xs j 0 ≢ a)) same
    (is.0.high, byte_is a (get_or shown k 0) is.1, λ j above below. byte_is_not a (get_or shown j 0) (is.0.after j (omega (arith, above)) below))

pub nowhere : (a : ℕ) (shown bytes : List ℕ) → shown ≡ bytes → Nowhere (Passes (is_byte a) shown) 0 (length shown) → (j : ℕ) → j < length bytes → get_or bytes j 0 ≢ a
nowhere a shown bytes same none =
    subst (λ (xs : List ℕ). (j : ℕ) → j < length xs → get_or xs j 0 ≢ a) same (λ j below. byte_is_not a (get_or shown j 0) (none j (omega arith) below))

pub lacks : (a : ℕ) (bytes : List ℕ) → Nowhere (Passes (is_byte a) bytes) 0 (length bytes) → ¬ (Contains bytes a)
lacks a bytes none has = nowhere a bytes bytes refl none has.0 has.1 (get_or_default bytes has.0 0 a has.1 ∙ has.2)

pub lacks_before : (a : ℕ) (bytes : List ℕ) (k : ℕ) → NoneBefore (Passes (is_byte a) bytes) 0 (length bytes) k × Passes (is_byte a) bytes k → ¬ (Contains (take k bytes) a)
lacks_before a bytes k is has =
    let within : has.0 < k = omega (arith, has.1, length-take k bytes) in
    byte_is_not a (get_or bytes has.0 0) (is.0.before has.0 (omega arith) within)
    (get_or_default bytes has.0 0 a (omega (arith, within, is.0.high)) ∙ sym (get_or-take k bytes has.0 a within) ∙ has.2)
