use Rattle.std.proofs.Common.{◌≡◌, true, subst}
use Rattle.casa_flight.specs.declared.call.Call.{Call}
use Rattle.casa_flight.specs.contracts.call.CallPartialEq.TheImpl.{ghosts as call}
use Rattle.casa_flight.specs.contracts.call.CallEq.TheImpl.Laws.{laws-law}
use Rattle.casa_flight.proofs.Same.{call_same}
use Rattle.casa_flight.proofs.equality.call_equality.Goals as goal

pub returns : goal.returns
returns c = λ a b. (call_same a b, λ e. subst (λ (z : Call). call.eq a z ≡ true) e (laws-law.refl a))
