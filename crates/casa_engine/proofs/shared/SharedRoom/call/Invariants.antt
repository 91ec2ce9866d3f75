use Rattle.std.specs.Prelude.{◌≡◌}
use Rattle.casa_commit.specs.Passes.{SamePass}
use Rattle.casa_engine.specs.Fronts.{front_of}
use Rattle.casa_engine.proofs.shared.SharedRoom.call.Given as goal

abbrev pub invariant-loop-attempt : goal.invariant-loop-attempt
invariant-loop-attempt g l = SamePass l.fn.desk.pass l.desk.pass × (front_of l.desk ≡ front_of l.fn.desk)
