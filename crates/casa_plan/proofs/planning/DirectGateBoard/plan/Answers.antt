use Rattle.std.proofs.lemmas.Result.{IfOk-weaker}
use Rattle.casa_plan.proofs.planning.DirectGateBoard.plan.Goals as goal

pub returns : goal.returns
returns g c =
    IfOk-weaker c.plan.result _ _ (λ p right s well shown. right s.state well.good shown) c.plan.ensures
