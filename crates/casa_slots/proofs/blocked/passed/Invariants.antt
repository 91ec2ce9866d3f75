use Rattle.std.proofs.Common.{◌≡◌, drop}
use Rattle.casa_slots.specs.Sparse.{passed, AreBlocked}
use Rattle.casa_slots.proofs.blocked.passed.Given as goal

abbrev pub invariant-loop-i : goal.invariant-loop-i
invariant-loop-i l = (passed (drop l.i l.blocks) l.clear ≡ passed l.blocks l.slot) × AreBlocked l.clear l.slots (drop l.i l.blocks)
