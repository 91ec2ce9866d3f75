use Rattle.std.proofs.Common.{◌≡◌, ◌≤◌, ◌++◌, length, map}
use Rattle.casa_server.specs.Begun.{connection_of}
use Rattle.casa_server.specs.Serving.{HaveEnded}
use Rattle.casa_server.proofs.begun.end_all.Given as goal

-- those that are gone have ended
abbrev pub invariant-ending : goal.invariant-ending
invariant-ending g l =
    (l.yielded ++ l.begun-iterator.rest.items ≡ l.fn.all.items) × (l.faulted ≤ length l.yielded)
    × HaveEnded g.W.World g.L.Named g.I.Read.remaining g.O.Write.contents l.front (map connection_of l.yielded) l.faulted
