use Rattle.casa_day.proofs.Living.{nothing_is_lost}
use Rattle.casa_day.proofs.laws.nothing_told_is_lost.Goals as goal

pub returns : goal.returns
returns g c found left life lives lived = nothing_is_lost g.S.Script g.W.World found life lives left lived
