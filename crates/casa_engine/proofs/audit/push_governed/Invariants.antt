use Rattle.std.specs.Prelude.{◌≡◌, ◌+◌, take}
use Rattle.std.specs.List.{sum_by}
use Rattle.casa_flight.specs.Listing.{delay_in}
use Rattle.casa_list.specs.Standings.{standings}
use Rattle.casa_engine.specs.Delays.{numbered_delays}
use Rattle.casa_engine.proofs.audit.push_governed.Given as goal

abbrev pub invariant-loop-n : goal.invariant-loop-n
invariant-loop-n l =
    numbered_delays l.flights.items ≡ numbered_delays l.fn.flights.items
    + sum_by (λ f. delay_in l.list f.0.key) (take l.n (standings l.list))
