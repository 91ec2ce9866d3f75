-- flights in their order, read in another way
use Rattle.std.proofs.Common.{◌≡◌, ℕ, ◌+◌, List, [], ◌∷◌, length, map, not, Bool, refl, sym, ◌∙◌, ap, arith, cond, zero, suc, unwrap_or}
use Rattle.std.specs.List.{All, fold, insert, remove, position, position_or_len}
use Rattle.std.specs.List.Sorted.{IsSortedBy}
use Rattle.std.proofs.lemmas.List.{length-map, get_or-map}
use Rattle.std.proofs.lemmas.List.Elements.{All-nil, All-head, All-tail}
use Rattle.casa_flight.specs.Listing.{sorted_by, insert_sorted}
use Rattle.casa_slots.proofs.Found.{index_is}
use Rattle.casa_list.proofs.Seated.{All-insert}

position-map : {X Y : Type 0} (f : X → Y) (p : Y → Bool) (xs : List X) → position_or_len p (map f xs) ≡ position_or_len (λ x. p (f x)) xs
position-map f p [] = refl
position-map f p (x ∷ xs) = ap (λ n. cond (not (p (f x))) (1 + n) 0) (position-map f p xs)

pub insert-map : {X Y : Type 0} (f : X → Y) (xs : List X) (i : ℕ) (x : X) → insert (map f xs) i (f x) ≡ map f (insert xs i x)
insert-map f xs zero x = refl
insert-map f [] (suc i) x = refl
insert-map f (y ∷ xs) (suc i) x = ap (λ ys. f y ∷ ys) (insert-map f xs i x)

pub remove-map : {X Y : Type 0} (f : X → Y) (xs : List X) (i : ℕ) → remove (map f xs) i ≡ map f (remove xs i)
remove-map f [] zero = refl
remove-map f [] (suc i) = refl
remove-map f (y ∷ xs) zero = refl
remove-map f (y ∷ xs) (suc i) = ap (λ ys. f y ∷ ys) (remove-map f xs i)

-- where a flight stands or goes
pub first-map : {X Y : Type 0} (f : X → Y) (p : Y → Bool) (xs : List X) → unwrap_or (position p (map f xs)) (length (map f xs)) ≡ unwrap_or (position (λ x. p (f x)) xs) (length xs)
first-map f p xs = index_is p (map f xs) ∙ position-map f p xs ∙ sym (index_is (λ x. p (f x)) xs)

pub put_by-map : {X Y : Type 0} (f : X → Y) (before : Y → Y → Bool) (x : X) (xs : List X) → insert_sorted before (f x) (map f xs) ≡ map f (insert_sorted (λ a b. before (f a) (f b)) x xs)
put_by-map f before x xs =
    ap (λ n. insert (map f xs) n (f x)) (first-map f (λ y. not (before y (f x))) xs)
    ∙ insert-map f xs (unwrap_or (position (λ y. not (before (f y) (f x))) xs) (length xs)) x

put_all-map : {X Y : Type 0} (f : X → Y) (before : Y → Y → Bool) (zs xs : List X) →
    fold (λ ys y. insert_sorted before y ys) (map f zs) (map f xs) ≡ map f (fold (λ ys x. insert_sorted (λ a b. before (f a) (f b)) x ys) zs xs)
put_all-map f before zs [] = refl
put_all-map {X} {Y} f before zs (x ∷ xs) =
    ap (λ ws. fold (λ (ys : List Y) (y : Y). insert_sorted before y ys) ws (map f xs)) (put_by-map f before x zs)
    ∙ put_all-map f before (insert_sorted (λ a b. before (f a) (f b)) x zs) xs

pub in_order-map : {X Y : Type 0} (f : X → Y) (before : Y → Y → Bool) (xs : List X) → sorted_by before (map f xs) ≡ map f (sorted_by (λ a b. before (f a) (f b)) xs)
in_order-map f before xs = put_all-map f before [] xs

-- what holds of each holds of each in order
all_put : {X : Type 0} (P : X → Type 0) (before : X → X → Bool) (zs xs : List X) → All P zs → All P xs → All P (fold (λ ys x. insert_sorted before x ys) zs xs)
all_put P before zs [] h each = h
all_put {X} P before zs (x ∷ xs) h each =
    all_put P before (insert_sorted before x zs) xs
    (All-insert P zs (unwrap_or (position (λ (y : X). not (before y x)) zs) (length zs)) x (All-head P x xs each) h) (All-tail P x xs each)

pub All-in_order : {X : Type 0} (P : X → Type 0) (before : X → X → Bool) (xs : List X) → All P xs → All P (sorted_by before xs)
All-in_order P before xs each = all_put P before [] xs (All-nil P) each

-- what is in order is so read in another way
pub sorted_read : {X Y : Type 0} (f : X → Y) (before : Y → Y → Bool) (xs : List X) → IsSortedBy before (map f xs) → IsSortedBy (λ a b. before (f a) (f b)) xs
sorted_read {X} {Y} f before xs up =
    let size : length (map f xs) ≡ length xs = length-map xs f in
    λ k d from lt.
    sym (λ j. before (get_or-map f xs (k + 1) d (f d) lt j) (get_or-map f xs k d (f d) (omega (arith, lt)) j))
    ∙ up k (f d) from (omega (arith, size, lt))
