use Rattle.std.proofs.Common.{◌≡◌, ◌≤◌, []}
use Rattle.std.specs.Io.KnownBytes.{Consumes}
use Rattle.casa_session.proofs.lines.LineReader.read.Given as goal

abbrev pub invariant-loop-self : goal.invariant-loop-self
invariant-loop-self g l = record {
  emptied : l.self.start ≡ l.self.end;
  consumed : Consumes (g.R.Read.remaining l.fn.source) (g.R.Read.remaining l.source) [];
  fewer : l.self.reads_left ≤ l.fn.self.reads_left;
}

abbrev pub decreases-loop-self : goal.decreases-loop-self
decreases-loop-self g l = l.self.reads_left
