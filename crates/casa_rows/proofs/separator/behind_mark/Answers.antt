use Rattle.std.proofs.Common.{◌∙◌}
use Rattle.casa_rows.proofs.Marks.{stripped, unmarked}
use Rattle.casa_rows.proofs.separator.behind_mark.Goals as goal

pub returns-in-Some : goal.returns-in-Some
returns-in-Some c =
    let cut = rw c.as_slice.ensures at c.in-Some.ensures.cases in
    cut.1 ∙ stripped c.args.file.now cut.0

pub returns-in-None : goal.returns-in-None
returns-in-None c = unmarked c.args.file.now (rw c.as_slice.ensures at c.in-None.ensures.cases)
