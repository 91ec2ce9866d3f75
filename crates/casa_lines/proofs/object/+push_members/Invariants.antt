use Rattle.std.proofs.Common.{◌+◌, length}
use Rattle.casa_lines.proofs.object.+push_members.Given as goal

abbrev pub decreases-push_members : goal.decreases-push_members
decreases-push_members l = length l.members.now + length l.beside.now
