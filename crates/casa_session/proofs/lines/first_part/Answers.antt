use Rattle.casa_session.proofs.Parts.{first_part_lem}
use Rattle.casa_session.proofs.lines.first_part.Goals as goal

pub returns-in-Some : goal.returns-in-Some
returns-in-Some c = rw (c.in-Some.is) at (first_part_lem c.args.bytes.now c.memchr.result c.memchr.ensures)

pub returns-in-None : goal.returns-in-None
returns-in-None c = rw (c.in-None.is) at (first_part_lem c.args.bytes.now c.memchr.result c.memchr.ensures)
