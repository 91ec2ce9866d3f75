use Rattle.std.proofs.Common.{◌≡◌, ◌++◌}
use Rattle.std.specs.Map.{keys_of}
use Rattle.casa_table.proofs.asking.Shared+OfFlight+V+FlightIndex.due.Given as goal

abbrev pub invariant-loop-key : goal.invariant-loop-key
invariant-loop-key g l = l.keys.items ++ keys_of l.key-iterator ≡ keys_of l.initial.key-iterator
