use Rattle.std.proofs.Common.{◌≡◌, length, map}
use Rattle.casa_server.specs.Begun.{connection_of}
use Rattle.casa_server.specs.Sources.{Gives}
use Rattle.casa_server.proofs.server.begin_all.Given as goal

abbrev pub invariant-accepting : goal.invariant-accepting
invariant-accepting g l =
    (length l.all.items ≡ l.counter)
    × Gives (g.S.Connections.coming l.fn.source) (g.S.Connections.coming l.source) (map connection_of l.all.items)
