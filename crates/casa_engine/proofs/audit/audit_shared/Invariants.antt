use Rattle.std.specs.Prelude.{◌≡◌, take}
use Rattle.std.specs.List.{sum_by}
use Rattle.casa_engine.specs.Delays.{delays, numbered_delays}
use Rattle.casa_engine.proofs.audit.audit_shared.Given as goal

abbrev pub invariant-loop-list : goal.invariant-loop-list
invariant-loop-list g l = numbered_delays l.flights.items ≡ sum_by delays (take l.list-index l.lists)
