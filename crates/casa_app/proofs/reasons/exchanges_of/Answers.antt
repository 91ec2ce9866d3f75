use Rattle.std.proofs.Common.{refl}
use Rattle.std.proofs.lemmas.Result.{IfOk-weaker}
use Rattle.casa_session.specs.Played.{state_after_calls}
use Rattle.casa_app.proofs.LastReply.{good_after}
use Rattle.casa_app.proofs.reasons.exchanges_of.Goals as goal

pub returns : goal.returns
returns c =
    let calls = c.args.lone.now in
    IfOk-weaker c.exchanges.result _ _ (λ possible is. is (state_after_calls calls) (good_after calls) refl c.requires) c.exchanges.ensures
