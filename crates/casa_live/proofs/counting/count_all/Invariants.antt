use Rattle.std.proofs.Common.{◌-◌, take}
use mathlib.Core.List.{IsPrefix}
use Rattle.casa_live.specs.Tallies.{IsTallyOf}
use Rattle.casa_live.proofs.counting.count_all.Given as goal

abbrev pub invariant-loop-tally : goal.invariant-loop-tally
invariant-loop-tally g l = record {
  counted : IsTallyOf (take l.tally.position l.front) l.tally;
  longer : IsPrefix l.front l.later;
}

abbrev pub decreases-loop-tally : goal.decreases-loop-tally
decreases-loop-tally g l = l.entries - l.tally.position
