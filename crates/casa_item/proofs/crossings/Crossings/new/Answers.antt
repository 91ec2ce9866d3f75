use Rattle.std.proofs.Common.{sym, subst}
use Rattle.std.specs.List.Sorted.{IsStrictlySortedBy}
use Rattle.casa_flight.specs.Good.{AreInOrder}
use Rattle.casa_item.proofs.crossings.Crossings.new.Goals as goal

pub invariant_of-result : goal.invariant_of-result
unfolding IsStrictlySortedBy
invariant_of-result c = subst AreInOrder (sym c.new.ensures) tt
