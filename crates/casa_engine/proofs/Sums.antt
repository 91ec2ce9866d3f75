use Rattle.std.proofs.Common.{◌≡◌, ℕ, zero, suc, ◌+◌, ◌≤◌, List, [], ◌∷◌, map, take, Bool, refl, ap, subst, ◌∙◌, zero-add, arith}
use Rattle.std.proofs.lemmas.List.Elements.{All-cons}
use Rattle.std.proofs.lemmas.List.Sums.{sum_by-cons, sum_by-insert}
use Rattle.std.proofs.Math.Seq.{take-nil}
use Rattle.std.specs.List.{All, AllZip, sum_by, slice_get, fold}
use Rattle.std.specs.Option.{option_map_or}
use Rattle.casa_flight.specs.Listing.{insert_sorted, sorted_by}

-- a sum over one element more has what f gives of it, if there is one
pub sum_by_next : {X : Type 0} → (f : X → ℕ) (xs : List X) (n : ℕ)
    → sum_by f (take (n + 1) xs) ≡ sum_by f (take n xs) + option_map_or f (slice_get xs n) 0
sum_by_next f [] zero = refl
sum_by_next {X} f [] (suc n) = ap (sum_by f) (take-nil {A = X} (suc n + 1))
sum_by_next f (x ∷ xs) zero = refl
sum_by_next f (x ∷ xs) (suc n) =
    let next : suc n + 1 ≡ suc (n + 1) = omega arith in
    let rest = sum_by_next f xs n in
    rw next (omega (arith, sum_by-cons f x (take (n + 1) xs), sum_by-cons f x (take n xs), rest))

-- what f gives is within a bound, place by place
abbrev pub IsWithin : {X : Type 0} → (X → ℕ) → ℕ → X → ℕ → Type 0
IsWithin f most x y = (y ≡ f x) × (y ≤ most)

pub all_within : {X : Type 0} → (f : X → ℕ) (most : ℕ) (xs : List X) (ys : List ℕ) → AllZip (IsWithin f most) xs ys
    → All (λ x. f x ≤ most) xs
all_within f most [] [] h = λ k x within. absurd (omega arith)
all_within f most [] (y ∷ ys) h = absurd h
all_within f most (x ∷ xs) [] h = absurd h
all_within f most (x ∷ xs) (y ∷ ys) h =
    let here : f x ≤ most = subst (λ n. n ≤ most) h.0.0 h.0.1 in
    All-cons (λ x. f x ≤ most) x xs here (all_within f most xs ys h.1)

-- a sum over what g gives
pub sum_by-map : {X Y : Type 0} → (f : Y → ℕ) (g : X → Y) (xs : List X) → sum_by f (map g xs) ≡ sum_by (λ (x : X). f (g x)) xs
sum_by-map f g [] = refl
sum_by-map {X} f g (x ∷ xs) =
    omega (arith, sum_by-cons f (g x) (map g xs), sum_by-cons (λ (x : X). f (g x)) x xs, sum_by-map f g xs)

-- to put a list in order leaves its sum
sum_by-fold : {X : Type 0} → (f : X → ℕ) (precedes : X → X → Bool) (ys xs : List X)
    → sum_by f (fold (λ (ys : List X) (x : X). insert_sorted precedes x ys) ys xs) ≡ sum_by f ys + sum_by f xs
sum_by-fold f precedes ys [] = omega arith
sum_by-fold f precedes ys (x ∷ xs) =
    let put : sum_by f (insert_sorted precedes x ys) ≡ sum_by f ys + f x = sum_by-insert f ys _ x in
    omega (arith, put, sum_by-cons f x xs, sum_by-fold f precedes (insert_sorted precedes x ys) xs)

pub sum_by-in_order : {X : Type 0} → (f : X → ℕ) (precedes : X → X → Bool) (xs : List X) → sum_by f (sorted_by precedes xs) ≡ sum_by f xs
sum_by-in_order f precedes xs = sum_by-fold f precedes [] xs ∙ zero-add (sum_by f xs)
