use Rattle.std.proofs.Common.{◌∙◌}
use Rattle.casa_session.proofs.lone.Lone.catalogue.Goals as goal

pub returns : goal.returns
returns c = c.catalogue.ensures ∙ c.board.ensures.catalogue
