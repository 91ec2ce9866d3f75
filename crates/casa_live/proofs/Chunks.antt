-- entries that are counted chunk by chunk
use Rattle.std.proofs.Common.{◌≡◌, ℕ, ◌+◌, ◌≤◌, ◌<◌, ◌^◌, List, ◌++◌, length, take, drop, sym, ap, subst, ◌∙◌, arith, append_assoc, length-append, length-drop}
use Rattle.std.proofs.lemmas.List.{drop-append-le, length-take-le, take-append-le}
use Rattle.std.proofs.Math.Seq.{take-add}
use mathlib.Core.List.{IsPrefix}
use Rattle.casa_flight.specs.declared.call.Call.{Call}
use Rattle.casa_flight.specs.declared.reply.Reply.{Reply}
use Rattle.casa_history.specs.declared.entry.Entry.{Entry}
use Rattle.casa_live.specs.declared.tally.Tally.{Tally}
use Rattle.casa_live.specs.Tallies.{IsTallyOf}

pub longer : {X : Type 0} (xs ys zs : List X) → IsPrefix xs ys → IsPrefix ys zs → IsPrefix xs zs
longer xs ys zs one two = (one.0 ++ two.0, sym (append_assoc xs one.0 two.0) ∙ ap (λ ws. ws ++ two.0) one.1 ∙ two.1)

-- what is behind the first elements, by a longer list
next_chunk : {X : Type 0} (xs ys es : List X) (p most : ℕ) → IsPrefix xs ys → p + most ≤ length xs → es ≡ take most (drop p ys)
    → take p xs ++ es ≡ take (p + most) xs
next_chunk xs ys es p most begins within is =
    let here : es ≡ take most (drop p xs) =
    is ∙ ap (λ ws. take most (drop p ws)) (sym begins.1) ∙ ap (take most) (drop-append-le p xs begins.0 (omega arith))
    ∙ take-append-le most (drop p xs) begins.0 (omega (arith, length-drop p xs)) in
    ap (λ ws. take p xs ++ ws) here ∙ sym (take-add p most xs)

-- a chunk more is counted
pub chunk_counted : (all later es : List (Entry Call Reply)) (old new : Tally) (most : ℕ) → IsPrefix all later → length all < 2 ^ 64
    → old.position + most ≤ length all → es ≡ take most (drop old.position later) → IsTallyOf (take old.position all) old
    → ((history : List (Entry Call Reply)) → length history + length es < 2 ^ 64 → IsTallyOf history old → IsTallyOf (history ++ es) new)
    → IsTallyOf (take new.position all) new × (new.position ≡ old.position + most)
chunk_counted all later es old new most begins short within is counted adds =
    let p = old.position in
    let joined : take p all ++ es ≡ take (p + most) all = next_chunk all later es p most begins within is in
    let many : length (take (p + most) all) ≡ p + most = length-take-le (p + most) all within in
    let room : length (take p all) + length es < 2 ^ 64 = omega (arith, length-append (take p all) es, ap length joined, many) in
    let now : IsTallyOf (take (p + most) all) new = subst (λ (xs : List (Entry Call Reply)). IsTallyOf xs new) joined (adds (take p all) room counted) in
    let place : new.position ≡ p + most = now.position ∙ many in
    (subst (λ (k : ℕ). IsTallyOf (take k all) new) (sym place) now, place)
