use Rattle.std.proofs.Common.{◌≡◌, ◌≤◌, ◌+◌, ◌++◌, length, map}
use Rattle.std.specs.Prelude.{vec_len, vec_capacity}
use mathlib.Core.List.{IsPrefix}
use Rattle.casa_server.specs.Begun.{source_of}
use Rattle.casa_server.specs.Seats.{HaveSat}
use Rattle.casa_server.proofs.staying.end_seats.Given as goal

-- those that are gone have sat, and there is room for the others
abbrev pub invariant-ending : goal.invariant-ending
invariant-ending g l =
    (l.yielded ++ l.seat-iterator.rest.items ≡ l.fn.seats.items) × IsPrefix l.initial.front l.front
    × HaveSat g.W.World g.L.Named g.S.Reader.Read.remaining g.S.Writer.Write.contents l.front
    (map g.S.Connections.coming (map source_of l.yielded)) l.sats.items
    × (vec_len l.sats + length l.seat-iterator.rest.items ≤ vec_capacity l.sats)
