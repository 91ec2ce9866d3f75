use Rattle.std.proofs.Common.{◌≡◌, ◌++◌, drop}
use Rattle.std.specs.List.{filter_map}
use Rattle.casa_flight.specs.declared.row.Stance.{Stance}
use Rattle.casa_filing.specs.Text.{Text}
use Rattle.casa_plan_spec.specs.Closing.{governed_comp}
use Rattle.casa_plan.proofs.closing.governed_flights.Given as goal

abbrev pub invariant-loop-member : goal.invariant-loop-member
invariant-loop-member l =
    l.comps.items ++ filter_map (λ (e : Text × Stance). governed_comp e.0 e.1) (drop l.member-index l.member-items)
    ≡ filter_map (λ (e : Text × Stance). governed_comp e.0 e.1) l.list.flights
