use Rattle.std.proofs.Common.{sym, subst}
use Rattle.casa_flight.specs.Good.{AreInOrder}
use Rattle.casa_named.proofs.Merging.{none-in-order}
use Rattle.casa_named.proofs.sorted.Sorted.new.Goals as goal

pub invariant_of-result : goal.invariant_of-result
invariant_of-result g c = subst AreInOrder (sym c.new.ensures.items) none-in-order
