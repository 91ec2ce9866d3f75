use Rattle.std.proofs.Common.{◌≡◌, ◌++◌}
use Rattle.std.specs.List.{filter_map}
use Rattle.casa_session.specs.Played.{state_after_calls}
use Rattle.casa_app.proofs.Paged.{planned_under}
use Rattle.casa_app.specs.Pages.{planned_flights}
use Rattle.casa_app.proofs.pages.planned_flights.Given as goal

abbrev pub invariant-loop-key : goal.invariant-loop-key
invariant-loop-key l =
    l.flights.items ++ filter_map (planned_under (state_after_calls l.lone)) l.key-iterator
    ≡ planned_flights (state_after_calls l.lone)
