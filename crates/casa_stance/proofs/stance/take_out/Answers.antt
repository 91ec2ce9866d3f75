use Rattle.std.proofs.Common.{◌∙◌}
use Rattle.casa_stance.proofs.Standing.{without_none}
use Rattle.casa_stance.proofs.stance.take_out.Goals as goal

pub returns-in-None : goal.returns-in-None
returns-in-None c = without_none c.args.list.now c.args.key.now (c.requires ∙ c.in-None.is)
