use Rattle.std.proofs.Common.{map}
use Rattle.std.specs.Map.Iter.{deref_pair}
use Rattle.casa_flight.specs.Good.{AreInOrder}
use Rattle.casa_view.specs.Next.{AreAlike, NextRow}
use Rattle.casa_view.proofs.staging.row_versions.Given as goal

abbrev pub invariant-loop-key : goal.invariant-loop-key
invariant-loop-key g l =
    (goal.iterator-loop-key g).can_next l.key-iterator ×
    (goal.iterator-loop-key g).is_finite l.key-iterator ×
    AreInOrder l.versions.entries ×
    AreAlike (NextRow g.K.Version.Version.item_of g.K.Version.Version.stamp_of l.position)
    (map deref_pair l.yielded) l.versions.entries
