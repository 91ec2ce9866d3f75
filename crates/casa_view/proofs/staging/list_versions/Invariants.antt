use Rattle.std.proofs.Common.{map}
use Rattle.std.specs.Map.Iter.{deref_pair}
use Rattle.casa_flight.specs.Good.{AreInOrder}
use Rattle.casa_view.specs.Next.{AreAlike, NextList}
use Rattle.casa_view.proofs.staging.list_versions.Given as goal

abbrev pub invariant-loop-id : goal.invariant-loop-id
invariant-loop-id g l =
    (goal.iterator-loop-id g).can_next l.id-iterator ×
    (goal.iterator-loop-id g).is_finite l.id-iterator ×
    AreInOrder l.versions.entries ×
    AreAlike (NextList g.K.Version.Version.item_of g.K.Version.Version.stamp_of l.position)
    (map deref_pair l.yielded) l.versions.entries
