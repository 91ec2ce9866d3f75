use Rattle.std.proofs.Common.{◌≡◌, ℕ, List, ◌++◌, take}
use Rattle.casa_app.proofs.input.keep_first.Given as goal

abbrev pub invariant-bytes : goal.invariant-bytes
invariant-bytes l = (before : List ℕ) → l.initial.first.items ≡ take 3 before → l.first.items ≡ take 3 (before ++ take l.byte-index l.bytes)
