use Rattle.casa_interleavings.proofs.Ending.{HasCome}
use Rattle.casa_interleavings.proofs.living.go_on.Given as goal

-- so far the first of the events happened
abbrev pub invariant-loop-event : goal.invariant-loop-event
invariant-loop-event g l = HasCome g.S.Script g.T.Tape l.fn.begun l.fn.opened l.events l.event-index l.run l.journal
