use Rattle.casa_tape.specs.Lines.{before_nul}
use Rattle.casa_tape.proofs.Places.{last_place, nowhere}
use Rattle.casa_tape.proofs.WholeLines.{whole_at, whole_none}
use Rattle.casa_tape.proofs.lines.whole_end.Goals as goal

pub returns-in-Some : goal.returns-in-Some
returns-in-Some c =
    let at = last_place 10 c.solid.result.now (before_nul c.args.bytes.now) c.in-Some.last c.solid.ensures c.in-Some.ensures in
    whole_at c.args.bytes.now c.in-Some.last at.0 at.1 at.2

pub returns-in-None : goal.returns-in-None
returns-in-None c = whole_none c.args.bytes.now (nowhere 10 c.solid.result.now (before_nul c.args.bytes.now) c.solid.ensures c.in-None.ensures)
