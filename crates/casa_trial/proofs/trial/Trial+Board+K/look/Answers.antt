use Rattle.std.proofs.Common.{◌++◌}
use Rattle.casa_branch.specs.Behind.{entries_in}
use Rattle.casa_branch.specs.Branches.{earlier_of, given_of}
use Rattle.casa_plan.proofs.Replayed.{stands}
use Rattle.casa_trial.proofs.Looked.{look-after, of_history}
use Rattle.casa_trial.proofs.trial.Trial+Board+K.look.Goals as goal

pub returns : goal.returns
returns g c =
    let b = c.self.inside.branch in
    let es = earlier_of b ++ entries_in (given_of b) in
    look-after c.look_on.result es c.args.self.now c.self.view_is
    (of_history c.look_on.result es _ _ c.look_on.ensures (stands es _ c.world.ensures.replay c.world.ensures.good) c.in_ok-calls.ensures)
