use Rattle.casa_interleavings.specs.Runs.{run_history}
use Rattle.casa_interleavings.proofs.Boards.{ran, stands_after}
use Rattle.casa_interleavings.proofs.playing.Run+Board+K.next.Goals as goal

pub returns-clause-run : goal.returns-clause-run
returns-clause-run g c = ran c.in_ok-next.next c.in_ok-next.ensures.run

pub returns-clause-stands : goal.returns-clause-stands
returns-clause-stands g c = stands_after (run_history c.in_ok-next.next) c.in_ok-next.ensures.state
