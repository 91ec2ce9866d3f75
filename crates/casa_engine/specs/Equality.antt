-- for proofs: what desks of boards compare at the end is compared by equality
use Rattle.std.specs.Prelude.{◌≡◌, ◌↔◌, true}
use Rattle.std.proofs.Common.{subst}
use Rattle.casa_flight.specs.declared.call.Call.{Call}
use Rattle.casa_flight.specs.declared.reply.Reply.{Reply}
use Rattle.casa_flight.specs.contracts.call.CallPartialEq.TheImpl.{ghosts as call}
use Rattle.casa_flight.specs.contracts.call.CallEq.TheImpl.Laws.{laws-law as call_laws}
use Rattle.casa_flight.specs.contracts.reply.ReplyPartialEq.TheImpl.{ghosts as reply}
use Rattle.casa_flight.specs.contracts.reply.ReplyEq.TheImpl.Laws.{laws-law as reply_laws}
use Rattle.casa_flight.proofs.Same.{call_same}
use Rattle.casa_flight.proofs.SameReply.{reply_same}

pub call_equality : (a b : Call) → call.eq a b ≡ true ↔ a ≡ b
call_equality a b = (call_same a b, λ e. subst (λ (z : Call). call.eq a z ≡ true) e (call_laws.refl a))

pub reply_equality : (a b : Reply) → reply.eq a b ≡ true ↔ a ≡ b
reply_equality a b = (reply_same a b, λ e. subst (λ (z : Reply). reply.eq a z ≡ true) e (reply_laws.refl a))
