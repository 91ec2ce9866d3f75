use Rattle.std.proofs.Common.{List, drop}
use Rattle.casa_filing.specs.Text.{Text}
use Rattle.casa_table.specs.declared.flights.Passing.{Passing}
use Rattle.casa_table.specs.Passing.{passings_at, HaveMore, HaveVia}
use Rattle.casa_table.proofs.flights.add_passings.Given as goal

abbrev pub invariant-loop-crossing : goal.invariant-loop-crossing
invariant-loop-crossing l =
    HaveMore (passings_at l.initial.passings.entries) (passings_at l.passings.entries)
    × ((ps : Text → List Passing) → HaveMore (passings_at l.passings.entries) ps
    → HaveVia ps l.key (drop l.crossing-index l.via) → HaveVia ps l.key l.via)
