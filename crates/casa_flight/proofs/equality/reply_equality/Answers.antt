use Rattle.std.proofs.Common.{◌≡◌, true, subst}
use Rattle.casa_flight.specs.declared.reply.Reply.{Reply}
use Rattle.casa_flight.specs.contracts.reply.ReplyPartialEq.TheImpl.{ghosts as reply}
use Rattle.casa_flight.specs.contracts.reply.ReplyEq.TheImpl.Laws.{laws-law}
use Rattle.casa_flight.proofs.SameReply.{reply_same}
use Rattle.casa_flight.proofs.equality.reply_equality.Goals as goal

pub returns : goal.returns
returns c = λ a b. (reply_same a b, λ e. subst (λ (z : Reply). reply.eq a z ≡ true) e (laws-law.refl a))
