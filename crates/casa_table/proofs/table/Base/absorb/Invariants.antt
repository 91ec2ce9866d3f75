use Rattle.std.proofs.Common.{◌≡◌, Option, Some}
use Rattle.std.specs.List.{AllByRecursion}
use Rattle.casa_filing.specs.Text.{Text, at_name}
use Rattle.casa_flight.specs.Good.{AreInOrder}
use Rattle.casa_table.specs.Laid.{with_changes}
use Rattle.casa_table.proofs.table.Base.absorb.Given as goal

abbrev pub invariant-loop-name : goal.invariant-loop-name
invariant-loop-name g l = record {
  left : AllByRecursion (λ (e : Text × Option g.row.V.Denot). at_name l.fn.changes.entries e.0 ≡ Some e.1) l.name-iterator;
  rest : with_changes l.name-iterator l.self ≡ with_changes l.fn.changes.entries l.initial.self;
  all : with_changes l.fn.changes.entries l.self ≡ with_changes l.fn.changes.entries l.initial.self;
  ordered : AreInOrder l.initial.self → AreInOrder l.self;
}
