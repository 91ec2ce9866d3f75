use Rattle.std.proofs.Common.{sym}
use Rattle.casa_named.specs.Named.{left}
use Rattle.casa_named.proofs.Merging.{passed-in-order}
use Rattle.casa_named.proofs.entries.Entries.pass.Goals as goal

pub invariant_of-self : goal.invariant_of-self
invariant_of-self g c =
    passed-in-order c.self.inside.first (left c.self.inside.others) _
    (sym c.if-is_some.ensures) c.pass-self-inside.ensures c.self.invariant
