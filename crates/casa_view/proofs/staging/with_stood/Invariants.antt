use Rattle.std.proofs.Common.{map}
use Rattle.std.specs.Map.Iter.{deref_pair}
use Rattle.casa_filing.specs.Text.{Text, at_name}
use Rattle.casa_flight.specs.Good.{AreInOrder}
use Rattle.casa_view.specs.Next.{NextStand, list_among}
use Rattle.casa_view.proofs.staging.with_stood.Given as goal

abbrev pub invariant-loop-id : goal.invariant-loop-id
invariant-loop-id g l =
    (goal.iterator-loop-id g).can_next l.id-iterator ×
    (goal.iterator-loop-id g).is_finite l.id-iterator ×
    (AreInOrder l.initial.all.entries → AreInOrder l.all.entries) ×
    ((q : Text) → NextStand g.K.Version.Version.item_of g.K.Version.Version.stamp_of l.position
    (list_among g.K.Version.Version.item_of l.table.entries) q
    (at_name (map deref_pair l.yielded) q) (at_name l.initial.all.entries q) (at_name l.all.entries q))
