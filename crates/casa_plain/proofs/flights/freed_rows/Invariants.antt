use Rattle.std.proofs.Common.{◌≡◌, [], map}
use Rattle.casa_flight.specs.declared.row.Row.{Row}
use Rattle.casa_filing.specs.Text.{Text}
use Rattle.casa_flight.specs.State.{is_governed_by}
use Rattle.casa_flight.specs.Steps.{ungoverned_if}
use Rattle.casa_laws.proofs.Kept.{put_all}
use Rattle.casa_plain.proofs.flights.freed_rows.Given as goal

abbrev pub invariant-loop-key : goal.invariant-loop-key
invariant-loop-key l =
    put_all l.all.entries (map (λ (e : Text × Row). (e.0, ungoverned_if (is_governed_by l.id e.1) e.1)) l.key-iterator)
    ≡ put_all [] (map (λ (e : Text × Row). (e.0, ungoverned_if (is_governed_by l.id e.1) e.1)) l.rows.entries)
