use Rattle.std.specs.Prelude.{◌≡◌, ◌++◌, filter, map}
use Rattle.casa_flight.specs.declared.state.State.{State}
use Rattle.casa_difference.specs.Differences.{difference, differences, differs}
use Rattle.casa_difference.proofs.flights.differences.Given as goal

abbrev pub invariant-loop-key : goal.invariant-loop-key
invariant-loop-key g l =
    (m n : State) → g.B.Shown.shows l.base m → g.V.Shown.shows l.variant n
    → l.all.items ++ filter differs (map (difference m n) l.key-iterator) ≡ differences m n
