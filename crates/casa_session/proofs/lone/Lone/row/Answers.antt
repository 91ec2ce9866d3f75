use Rattle.std.proofs.Common.{ap, ◌∙◌}
use Rattle.casa_flight.specs.declared.state.State.{State}
use Rattle.casa_flight.specs.State.{row_of}
use Rattle.casa_session.proofs.lone.Lone.row.Goals as goal

pub returns : goal.returns
returns c = c.row.ensures ∙ ap (λ (m : State). row_of m c.args.key.now) c.board.ensures.state
