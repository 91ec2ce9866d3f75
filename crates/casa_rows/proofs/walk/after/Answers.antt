use Rattle.casa_rows.proofs.walk.after.Goals as goal

pub returns-in-Quoted : goal.returns-in-Quoted
returns-in-Quoted c = rw c.in-Quoted.is (c.after_quoted.ensures c.args.separator)
