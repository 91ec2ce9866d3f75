use Rattle.std.proofs.Common.{◌∷◌, [], ◌++◌, length-append, arith}
use Rattle.std.proofs.KnownBytes.{Consumes-trans}
use Rattle.casa_server.proofs.Ticking.{at_most_one, one_more}
use Rattle.casa_server.proofs.day_clock.keep_time.Goals as goal

pub turns-preserved : goal.turns-preserved
turns-preserved g c =
    let before = c.turns.invariant in
    let at = c.in-Some.at in
    let is_accepted = c.in_ok-tick.field-0 in (
      before.0 ++ at ∷ [],
      omega (arith, length-append before.0 (at ∷ []), before.1),
      omega (arith, c.from.ensures, at_most_one is_accepted, before.2),
      Consumes-trans _ _ _ before.0 (at ∷ []) before.3 c.in-Some.ensures,
      rw c.from.ensures (one_more _ _ _ before.0 c.turns.accepted at is_accepted before.4 c.in_ok-tick.ensures),
    )
