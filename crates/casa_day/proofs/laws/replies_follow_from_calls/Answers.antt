use Rattle.casa_day.proofs.Following.{answers_follow}
use Rattle.casa_day.proofs.laws.replies_follow_from_calls.Goals as goal

pub returns : goal.returns
returns g c es fs count legal also is = answers_follow g.W.World.after g.W.World.reply 1 g.W.World.opening es fs count legal also is
