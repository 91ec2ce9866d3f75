use Rattle.std.proofs.Common.{◌≡◌, ◌∷◌, ◌++◌, [], List, ap, subst}
use Rattle.std.specs.Prelude.{IfOk, Result}
use Rattle.std.specs.declared.alloc.AllocError.{AllocError}
use Rattle.casa_flight.specs.declared.call.Call.{Call}
use Rattle.casa_flight.specs.declared.reply.Reply.{Reply}
use Rattle.casa_flight.specs.declared.state.State.{State}
use Rattle.casa_flight.specs.Replies.{reply}
use Rattle.casa_history.specs.declared.entry.Entry.{Entry}
use Rattle.casa_history.specs.declared.entry.Receipt.{Receipt}
use Rattle.casa_commit.specs.Legal.{replay}
use Rattle.casa_commit.specs.Rooms.{entries_of}
use Rattle.casa_view.specs.BoardState.{after, opening}
use Rattle.casa_session.specs.Played.{calls_in, receipts_played, state_after_calls}
use Rattle.casa_session.proofs.Alone.{alone-answered, receipt-answered}
use Rattle.casa_session.proofs.Shown.{state-replayed}
use Rattle.casa_session.proofs.lone.Lone.receipt.Goals as goal

says : (es : List (Entry Call Reply)) (call : Call) → reply ((replay after opening es).state) call ≡ reply (state_after_calls (calls_in es)) call
says es call = ap (λ (m : State). reply m call) (state-replayed es)

pub invariant_of-self : goal.invariant_of-self
invariant_of-self c =
    alone-answered says c.self.inside.room c.args.call.now c.answer.new.self c.self.invariant c.answer.result c.answer.ensures.accepted c.answer.ensures.refused

pub invariant_of-self-2 : goal.invariant_of-self-2
invariant_of-self-2 c =
    alone-answered says c.self.inside.room c.args.call.now c.answer.new.self c.self.invariant c.answer.result c.answer.ensures.accepted c.answer.ensures.refused

pub returns-clause-ok : goal.returns-clause-ok
returns-clause-ok c =
    let Answered : Result (Receipt Call Reply) AllocError → List Call → Type 0 =
    λ result before. IfOk result (λ given. receipts_played (calls_in (entries_of c.answer.new.self)) ≡ receipts_played before ++ given ∷ []) in
    subst (λ result. Answered result c.args.self.now) c.in-Ok.is
    (subst (Answered c.answer.result) c.self.view_is
    (receipt-answered says c.self.inside.room c.args.call.now c.answer.new.self c.self.invariant c.answer.result c.answer.ensures.accepted))
