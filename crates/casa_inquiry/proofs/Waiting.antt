-- what is put down of each number
use Rattle.std.proofs.Common.{◌≡◌, ℕ, ◌+◌, ◌-◌, ◌<◌, ◌∙◌, sym, ap, List, ◌++◌, suc, arith, append_assoc}
use Rattle.std.specs.List.{flat_map, range_with_len}

-- the next of these numbers
pub next_slot : {Y : Type 0} (f : ℕ → List Y) (k until : ℕ) (done now all : List Y) → k < until → now ≡ done ++ f k → done ++ flat_map f (range_with_len k (until - k)) ≡ all
    → now ++ flat_map f (range_with_len (k + 1) (until - (k + 1))) ≡ all
next_slot f k until done now all lt is so =
    let more : until - k ≡ suc (until - (k + 1)) = omega arith in
    ap (λ t. t ++ flat_map f (range_with_len (k + 1) (until - (k + 1)))) is
    ∙ append_assoc done (f k) (flat_map f (range_with_len (k + 1) (until - (k + 1))))
    ∙ ap (λ n. done ++ flat_map f (range_with_len k n)) (sym more) ∙ so
