use Rattle.std.proofs.Common.{◌≡◌, ◌++◌, map}
use Rattle.casa_flight.specs.declared.row.Stance.{Stance}
use Rattle.casa_filing.specs.Text.{Text}
use Rattle.casa_flight.specs.Replies.{row_in}
use Rattle.casa_plain.proofs.plain.Plain.rows_in.Given as goal

abbrev pub invariant-loop-key : goal.invariant-loop-key
invariant-loop-key l =
    l.rows.items ++ map (λ (e : Text × Stance). row_in l.self l.list e.0 e.1) l.key-iterator
    ≡ map (λ (e : Text × Stance). row_in l.self l.list e.0 e.1) l.list.flights
