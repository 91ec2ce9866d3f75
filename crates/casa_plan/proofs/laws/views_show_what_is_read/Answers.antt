use Rattle.casa_plan.proofs.Seen.{seen_of_each}
use Rattle.casa_plan.proofs.laws.views_show_what_is_read.Goals as goal

pub returns : goal.returns
returns g c = λ v call m. seen_of_each g.V.Version.item_of v call m
