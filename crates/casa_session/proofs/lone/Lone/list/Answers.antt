use Rattle.std.proofs.Common.{◌∙◌}
use Rattle.casa_session.proofs.lone.Lone.list.Goals as goal

pub returns : goal.returns
returns c = c.list.ensures ∙ c.board.ensures.lists c.args.id.now
