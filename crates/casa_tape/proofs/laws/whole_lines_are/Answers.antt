use Rattle.casa_tape.proofs.WholeLines.{parts, no_line, whole_is}
use Rattle.casa_tape.proofs.laws.whole_lines_are.Goals as goal

pub returns-clause-there : goal.returns-clause-there
returns-clause-there c bytes =
    let p = parts bytes in
    (p.are, (p.end, p.split, no_line p.end p.nothing))

pub returns-clause-alone : goal.returns-clause-alone
returns-clause-alone c bytes end lines are is none = whole_is bytes end lines are is none
