use Rattle.std.proofs.Common.{List, [], ◌∷◌, sym, subst}
use Rattle.std.specs.List.{remove}
use Rattle.std.specs.List.Sorted.{IsStrictlySortedBy}
use Rattle.casa_filing.specs.Text.{Text}
use Rattle.casa_flight.specs.Good.{AreInOrder}
use Rattle.casa_named.proofs.sorted.Sorted.pop_first.Goals as goal

in_order : {X : Type 0} (es : List (Text × X)) → AreInOrder es → AreInOrder (remove es 0)
unfolding IsStrictlySortedBy
in_order [] h = h
in_order (e ∷ es) h = h.1

pub invariant_of-self : goal.invariant_of-self
invariant_of-self g c = subst AreInOrder (sym c.remove.ensures.items) (in_order c.self.inside.entries.items c.self.invariant)
