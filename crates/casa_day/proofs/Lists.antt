-- Lists that grow.
use Rattle.std.proofs.Common.{◌≡◌, ℕ, zero, suc, ◌+◌, ◌≤◌, List, [], ◌∷◌, ◌++◌, length, take, drop, refl, sym, ◌∙◌, ap, arith}
use Rattle.std.specs.List.{AllByRecursion}
use Rattle.std.proofs.lemmas.List.{append-nil, append_assoc}
use Rattle.casa_day.specs.Journals.{Grows}

take_none : {A : Type 0} → (n : ℕ) → take {A = A} n [] ≡ []
take_none zero = refl
take_none (suc n) = refl

pub take_drop : {A : Type 0} → (j n : ℕ) (xs : List A) → take j xs ++ take n (drop j xs) ≡ take (j + n) xs
take_drop zero n xs = ap (λ (k : ℕ). take k xs) (omega arith)
take_drop {A} (suc j) n [] = take_none {A = A} n ∙ sym (take_none {A = A} (suc j + n))
take_drop (suc j) n (x ∷ xs) =
    let number : suc (j + n) ≡ suc j + n = omega arith in
    ap (λ ys. x ∷ ys) (take_drop j n xs) ∙ ap (λ (k : ℕ). take k (x ∷ xs)) number

pub take_front : {A : Type 0} → (n : ℕ) (xs ys : List A) → n ≤ length xs → take n (xs ++ ys) ≡ take n xs
take_front zero xs ys le = refl
take_front (suc n) [] ys le = absurd (omega (arith, le))
take_front (suc n) (x ∷ xs) ys le = ap (λ zs. x ∷ zs) (take_front n xs ys (omega (arith, le)))

pub all_append : {A : Type 0} → (P : A → Type 0) (xs ys : List A) → AllByRecursion P xs → AllByRecursion P ys → AllByRecursion P (xs ++ ys)
all_append P [] ys all also = also
all_append P (x ∷ xs) ys all also = (all.0, all_append P xs ys all.1 also)

pub all_each : {A : Type 0} → (P Q : A → Type 0) (xs : List A) → ((x : A) → P x → Q x) → AllByRecursion P xs → AllByRecursion Q xs
all_each P Q [] step all = all
all_each P Q (x ∷ xs) step all = (step x all.0, all_each P Q xs step all.1)

pub all_both : {A : Type 0} → (P Q S : A → Type 0) (xs : List A) → ((x : A) → P x → Q x → S x) → AllByRecursion P xs → AllByRecursion Q xs → AllByRecursion S xs
all_both P Q S [] step all also = tt
all_both P Q S (x ∷ xs) step all also = (step x all.0 also.0, all_both P Q S xs step all.1 also.1)

pub grows_not : {A : Type 0} → (xs : List A) → Grows xs xs
grows_not xs = ([], sym (append-nil xs))

pub grows_on : {A : Type 0} → (first old new : List A) → Grows first old → Grows old new → Grows first new
grows_on first old new before more = (before.0 ++ more.0, more.1 ∙ ap (λ xs. xs ++ more.0) before.1 ∙ append_assoc first before.0 more.0)
