use Rattle.std.proofs.Common.{take}
use Rattle.casa_session.specs.Played.{state_after_calls}
use Rattle.casa_session.proofs.Filed.{AreKeys}
use Rattle.casa_session.proofs.lone.Lone.keys.Given as goal

abbrev pub invariant-loop-entry : goal.invariant-loop-entry
invariant-loop-entry l = AreKeys (state_after_calls l.self) (take l.entry-index l.entry-items) l.keys.keys
