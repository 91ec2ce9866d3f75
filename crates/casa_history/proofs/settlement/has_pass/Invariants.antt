use Rattle.std.proofs.Common.{◌≡◌, [], map, take}
use Rattle.casa_history.specs.Settlement.{passes_of}
use Rattle.casa_history.proofs.settlement.has_pass.Given as goal

abbrev pub invariant-loop-holder : goal.invariant-loop-holder
invariant-loop-holder g l = passes_of l.desk (map g.P.Holds.held (take l.holder-index l.passes)) ≡ []
