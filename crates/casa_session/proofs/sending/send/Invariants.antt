use Rattle.std.proofs.Common.{◌≡◌, ◌+◌, ◌≤◌, length, take}
use Rattle.std.specs.Io.KnownBytes.{Appends}
use Rattle.casa_session.specs.Sending.{saturating_count}
use Rattle.casa_session.proofs.sending.send.Given as goal

abbrev pub invariant-tries : goal.invariant-tries
invariant-tries g l = record {
  within : l.at ≤ length l.bytes;
  appended : Appends (g.W.Write.contents l.fn.writer) (g.W.Write.contents l.writer) (take l.at l.bytes);
  counted_so : l.count ≡ saturating_count (l.written + l.at);
}

abbrev pub decreases-tries : goal.decreases-tries
decreases-tries g l = l.tries_left
