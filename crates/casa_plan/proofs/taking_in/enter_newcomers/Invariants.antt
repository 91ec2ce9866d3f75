use Rattle.std.proofs.Common.{◌≡◌, false, drop}
use Rattle.std.specs.Option.{option_map_or}
use Rattle.std.specs.List.{filter}
use Rattle.casa_flight.specs.declared.comp.Comp.{Comp}
use Rattle.casa_flight.specs.Steps.{may_compete}
use Rattle.casa_plan_spec.specs.Sight.{row_in}
use Rattle.casa_plan_spec.specs.Enter.{with_entries}
use Rattle.casa_table.specs.Asking.{HaveRows, comps_of}
use Rattle.casa_plan.proofs.taking_in.enter_newcomers.Given as goal

abbrev pub invariant-loop-over : goal.invariant-loop-over
invariant-loop-over g l =
    (with_entries l.clock l.catalogue l.view l.draft (filter (λ (c : Comp). option_map_or (may_compete l.clock) (row_in l.view c.key) false) (comps_of (drop l.over-index l.flights)))
    ≡ with_entries l.clock l.catalogue l.view l.initial.draft (filter (λ (c : Comp). option_map_or (may_compete l.clock) (row_in l.view c.key) false) (comps_of l.flights)))
    × HaveRows l.view.rows (drop l.over-index l.flights)
