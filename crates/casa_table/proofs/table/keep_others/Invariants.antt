use Rattle.std.proofs.Common.{◌≡◌}
use Rattle.std.specs.Option.{option_or}
use Rattle.casa_filing.specs.Text.{Text, at_name}
use Rattle.casa_flight.specs.Good.{AreInOrder}
use Rattle.casa_table.proofs.table.keep_others.Given as goal

abbrev pub invariant-loop-name : goal.invariant-loop-name
invariant-loop-name g l =
    AreInOrder l.changes.entries ×
    ((q : Text)
    → option_or (at_name l.changes.entries q) (at_name l.name-iterator q)
    ≡ option_or (at_name l.initial.changes.entries q) (at_name l.earlier.entries q))
