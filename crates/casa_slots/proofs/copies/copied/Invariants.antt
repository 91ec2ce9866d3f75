use Rattle.std.proofs.Common.{◌≡◌, ◌++◌, ◌≤◌, vec_capacity}
use Rattle.casa_slots.proofs.copies.copied.Given as goal

abbrev pub invariant-loop-some : goal.invariant-loop-some
invariant-loop-some g l = (l.copy.items ++ l.some-iterator.rest.now ≡ l.all) × (l.room ≤ vec_capacity l.copy)
