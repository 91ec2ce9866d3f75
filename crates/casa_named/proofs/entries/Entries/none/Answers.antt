use Rattle.casa_named.proofs.Merging.{none-in-order}
use Rattle.casa_named.proofs.entries.Entries.none.Goals as goal

pub invariant_of-result : goal.invariant_of-result
invariant_of-result g c = none-in-order
