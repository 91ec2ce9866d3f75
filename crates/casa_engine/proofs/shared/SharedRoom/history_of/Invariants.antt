use Rattle.std.specs.Prelude.{take}
use Rattle.casa_engine.specs.Fronts.{AllBegin}
use Rattle.casa_engine.proofs.shared.SharedRoom.history_of.Given as goal

abbrev pub invariant-loop-k : goal.invariant-loop-k
invariant-loop-k g l = AllBegin (take l.k l.fn.fronts.items) l.all
