use Rattle.std.proofs.Common.{◌≡◌}
use Rattle.std.specs.Prelude.{vec_len}
use Rattle.casa_interleavings.specs.Desks.{AreFresh}
use Rattle.casa_interleavings.proofs.desks.open_desks.Given as goal

abbrev pub invariant-loop : goal.invariant-loop
invariant-loop g l = record {
  counted : vec_len l.desks ≡ l.counter;
  opened : vec_len l.room.desks ≡ l.counter;
  number : l.room.number ≡ l.fn.room.number;
  world : l.room.world ≡ l.fn.room.world;
  history : l.room.history ≡ l.fn.room.history;
  fresh : AreFresh l.room.number l.desks.items;
}
