use Rattle.std.proofs.Common.{◌≡◌, List}
use Rattle.casa_filing.specs.declared.plan.Crossing.{Crossing}
use Rattle.casa_filing.specs.Text.{Text}
use Rattle.casa_table.specs.Passing.{passings_at, HaveVia}
use Rattle.casa_table.proofs.flights.take_passings.Given as goal

abbrev pub invariant-loop-crossing : goal.invariant-loop-crossing
invariant-loop-crossing l =
    (other : Text) (via : List Crossing) → (other ≡ l.key → via ≡ l.present)
    → HaveVia (passings_at l.initial.passings.entries) other via → HaveVia (passings_at l.passings.entries) other via
