use Rattle.std.proofs.Common.{rules}
use Rattle.casa_slots.proofs.Sparse.{dense_none}
use Rattle.casa_slots.proofs.blocked.Blocked.none.Goals as goal

pub returns-clause-counts : goal.returns-clause-counts
returns-clause-counts c = dense_none c.args.slots _ (search rules)
