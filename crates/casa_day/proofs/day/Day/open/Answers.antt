use Rattle.std.specs.Prelude.{take}
use Rattle.casa_commit.specs.Rooms.{entries_of}
use Rattle.casa_tape.specs.Lines.{whole_lines}
use Rattle.casa_day.proofs.Following.{right_take, not_refused}
use Rattle.casa_day.proofs.Keeping.{running_begun}
use Rattle.casa_day.proofs.day.Day.open.Goals as goal

pub returns-in-Err-clause-accepted : goal.returns-in-Err-clause-accepted
returns-in-Err-clause-accepted g c history least xs legal held keeps of =
    let world = g.W.World in
    not_refused g.S.Script world (whole_lines xs) (take keeps.count history) c.in-Err.fault (right_take world.after world.reply keeps.count 1 world.opening history legal) keeps.said
    (c.in-Err.ensures.refused of xs held) of

pub returns-in-Ok-begin-clause-running : goal.returns-in-Ok-begin-clause-running
returns-in-Ok-begin-clause-running g c =
    let r = c.in-Ok.ensures.restored in
    let tape = c.restore.new.tape in
    running_begun g.S.Script g.T.Tape (entries_of c.restore.new.room) tape c.in-Ok.journaled r.lines c.in-Ok-begin.journal (g.met.T.Tape.only_now tape)
    c.in-Ok-begin.ensures.begun r.settled r.said r.all
