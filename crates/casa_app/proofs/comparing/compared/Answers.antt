use Rattle.std.proofs.Common.{refl}
use Rattle.std.proofs.lemmas.Result.{IfOk-weaker}
use Rattle.casa_session.specs.Played.{state_after_calls}
use Rattle.casa_app.proofs.LastReply.{good_after}
use Rattle.casa_app.proofs.comparing.compared.Goals as goal

pub returns : goal.returns
returns c =
    IfOk-weaker c.compare.result _ _
    (λ found is. is (state_after_calls c.args.base.now) (state_after_calls c.args.variant.now) (good_after c.args.base.now) (good_after c.args.variant.now) refl refl)
    c.compare.ensures
