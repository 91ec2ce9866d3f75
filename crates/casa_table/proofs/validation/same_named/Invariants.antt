use Rattle.std.proofs.Common.{◌≡◌, true, Some}
use Rattle.std.specs.Option.{option_map}
use Rattle.casa_filing.specs.Text.{Text, at_name}
use Rattle.casa_flight.specs.Good.{AreInOrder}
use Rattle.casa_table.specs.Same.{same_version}
use Rattle.casa_table.proofs.validation.same_named.Given as goal

abbrev pub invariant-loop-name : goal.invariant-loop-name
invariant-loop-name g l =
    (goal.iterator-loop-name g).can_next l.name-iterator ×
    (goal.iterator-loop-name g).is_finite l.name-iterator ×
    AreInOrder l.name-iterator ×
    ((q : Text) (w : _) → at_name l.name-iterator q ≡ Some w → at_name l.named q ≡ Some w) ×
    ((q : Text) → ((w : _) → at_name l.name-iterator q ≡ Some w
    → (same_version g.V.Version.is_same (at_name l.table.entries q) w ≡ true)
    × (option_map g.V.Version.item_of (at_name l.table.entries q) ≡ option_map g.V.Version.item_of w))
    → (w : _) → at_name l.named q ≡ Some w
    → (same_version g.V.Version.is_same (at_name l.table.entries q) w ≡ true)
    × (option_map g.V.Version.item_of (at_name l.table.entries q) ≡ option_map g.V.Version.item_of w))
