use Rattle.casa_day.proofs.Living.{read_is}
use Rattle.casa_day.proofs.laws.what_is_kept_is_read.Goals as goal

pub returns : goal.returns
returns g c history read least file legal also keeps said = (keeps.count, keeps.enough, keeps.within, read_is g.S.Script g.W.World history read least file legal also keeps said)
