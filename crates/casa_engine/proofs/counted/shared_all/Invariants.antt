use Rattle.std.proofs.Common.{◌≡◌, take}
use Rattle.casa_engine.proofs.counted.shared_all.Given as goal

-- so far the first entries are shared
abbrev pub invariant-loop-entry : goal.invariant-loop-entry
invariant-loop-entry g l = l.all.items ≡ take l.entry-index l.entries
