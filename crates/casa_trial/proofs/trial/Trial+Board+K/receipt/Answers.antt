use Rattle.std.proofs.Common.{◌≡◌, ◌∷◌, ◌++◌, [], List, subst}
use Rattle.std.specs.Prelude.{IfOk, Result}
use Rattle.std.specs.declared.alloc.AllocError.{AllocError}
use Rattle.casa_flight.specs.declared.call.Call.{Call}
use Rattle.casa_flight.specs.declared.reply.Reply.{Reply}
use Rattle.casa_history.specs.declared.entry.Receipt.{Receipt}
use Rattle.casa_branch.specs.Behind.{entries_in}
use Rattle.casa_branch.specs.Branches.{earlier_of, given_of}
use Rattle.casa_session.specs.Played.{calls_in, receipts_played}
use Rattle.casa_trial.proofs.Played.{played-ok}
use Rattle.casa_trial.proofs.trial.Trial+Board+K.receipt.Goals as goal

pub returns-clause-ok : goal.returns-clause-ok
returns-clause-ok g c =
    let b = c.self.inside.branch in
    let b' = c.answer.new.self in
    let Answered : Result (Receipt Call Reply) AllocError → List Call → Type 0 =
    λ result before. IfOk result (λ given. receipts_played (calls_in (earlier_of b' ++ entries_in (given_of b'))) ≡ receipts_played before ++ given ∷ []) in
    subst (λ result. Answered result c.args.self.now) c.in-Ok.is
    (subst (Answered c.answer.result) c.self.view_is
    (played-ok c.answer.result (earlier_of b) (earlier_of b') (given_of b) (given_of b') c.args.call.now _ c.world-world.ensures.stands c.answer.ensures.earlier c.answer.ensures.given c.answer.ensures.answered))
