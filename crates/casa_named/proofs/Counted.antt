-- where a search in two halves ends among entries
use Rattle.std.proofs.Common.{◌≡◌, ℕ, ◌-◌, ◌≤◌, List, [], ◌∷◌, length, Bool, true, false, arith, Some, ap, ◌∙◌}
use Rattle.std.specs.Ordering.{is_lt}
use Rattle.std.specs.List.{prefix_len, slice_get}
use Rattle.std.specs.List.Sorted.{IsPartitionPoint}
use Rattle.std.proofs.lemmas.Option.{get_or_from_slice_get}
use Rattle.casa_filing.specs.Text.{Text}
use Rattle.casa_filing.proofs.Entries.{text_cmp}
use Rattle.casa_flight.specs.Good.{AreInOrder}
use Rattle.casa_slots.proofs.Found.{first_failing}
use Rattle.casa_list.specs.Standings.{count_before}
use Rattle.casa_list.proofs.Keyed.{keys_parted}

-- the number before which all pass and from which on none does
pub counted : {X : Type 0} (p : X → Bool) (xs : List X) (i : ℕ) → i ≤ length xs
    → IsPartitionPoint (λ (y : X). p y ≡ true) (λ (y : X). p y ≡ false) xs i → i ≡ prefix_len p xs
counted p [] i le point = omega (arith, le)
counted p (x ∷ xs) i le point = first_failing p x (x ∷ xs) i le point

-- where the last comes before a name, all do
pub all_before : {X : Type 0} (k : Text) (es : List (Text × X)) (last : Text × X) → AreInOrder es
    → slice_get es (length es - 1) ≡ Some last → is_lt (text_cmp last.0 k) ≡ true → length es ≡ count_before es k
all_before k [] last h there before = cc
all_before {X} k (e ∷ es) last h there before =
    let p = λ (f : Text × X). is_lt (text_cmp f.0 k) in
    first_failing p e (e ∷ es) (length (e ∷ es)) (omega arith) (
      λ i d from lt.
          keys_parted k (e ∷ es) h i (length (e ∷ es) - 1) d (omega (arith, lt)) (omega arith)
          (ap p (get_or_from_slice_get (e ∷ es) (length (e ∷ es) - 1) last d there) ∙ before),
      λ i d from lt. absurd (omega (arith, from, lt)),
    )
