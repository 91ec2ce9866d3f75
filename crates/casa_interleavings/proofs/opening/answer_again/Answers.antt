use Rattle.casa_interleavings.specs.Runs.{run_events}
use Rattle.casa_interleavings.proofs.Turned.{turn_made, answered, answered_history}
use Rattle.casa_interleavings.proofs.opening.answer_again.Goals as goal

pub returns-clause-answered : goal.returns-clause-answered
returns-clause-answered g c =
    let committed = c.in_ok-committed in
    let turn = turn_made 0 c.args.call (run_events c.args.run) c.in_ok-read.ensures.events c.in_ok-computed.ensures.events
    committed.ensures.events in
    answered committed.committed c.args.call c.requires.again turn committed.ensures.run

pub returns-clause-history : goal.returns-clause-history
returns-clause-history g c =
    let committed = c.in_ok-committed in
    let turn = turn_made 0 c.args.call (run_events c.args.run) c.in_ok-read.ensures.events c.in_ok-computed.ensures.events
    committed.ensures.events in
    answered_history committed.committed c.args.call c.requires.again turn committed.ensures.run
