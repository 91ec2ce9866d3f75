use Rattle.std.proofs.Common.{◌≡◌, ℕ, ◌<◌, [], length}
use Rattle.casa_inquiry.specs.Why.{held_in}
use Rattle.casa_inquiry.proofs.why.empty_rows.Given as goal

abbrev pub invariant-loop : goal.invariant-loop
invariant-loop l = (length l.rows.items ≡ l.counter) × ((k : ℕ) → k < l.counter → held_in l.rows.items k ≡ [])
