use Rattle.casa_html.proofs.NoTag.{no_tags}
use Rattle.casa_html.proofs.laws.scripts_are_not_ended.Goals as goal

pub returns : goal.returns
returns c = no_tags
