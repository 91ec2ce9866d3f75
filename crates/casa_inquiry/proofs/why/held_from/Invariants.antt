use Rattle.std.proofs.Common.{take}
use Rattle.casa_inquiry.proofs.Held.{AreHeldSoFar}
use Rattle.casa_inquiry.proofs.why.held_from.Given as goal

abbrev pub invariant-loop-member : goal.invariant-loop-member
invariant-loop-member l = AreHeldSoFar l.list l.from l.until (take l.member-index l.member-items) l.rows.items
