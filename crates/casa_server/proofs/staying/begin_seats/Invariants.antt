use Rattle.std.proofs.Common.{◌≡◌, ◌++◌, map}
use Rattle.casa_server.specs.Begun.{source_of}
use Rattle.casa_server.proofs.staying.begin_seats.Given as goal

-- those that are gone have seats
abbrev pub invariant-beginning : goal.invariant-beginning
invariant-beginning g l =
    (l.yielded ++ l.source-iterator.rest.items ≡ l.fn.sources.items) × (map source_of l.seats.items ≡ l.yielded)
