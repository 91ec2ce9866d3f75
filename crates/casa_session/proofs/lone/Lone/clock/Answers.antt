use Rattle.std.proofs.Common.{ap, ◌∙◌}
use Rattle.casa_flight.specs.declared.state.State.{State}
use Rattle.casa_session.proofs.lone.Lone.clock.Goals as goal

pub returns : goal.returns
returns c = c.clock.ensures ∙ ap (λ (m : State). m.clock) c.board.ensures.state
