use Rattle.std.proofs.Common.{◌+◌, ◌<◌, ◌^◌}
use Rattle.casa_session.specs.declared.replies.Replies.{Replies}
use Rattle.casa_session.specs.LineReader.{pending, steps_left}
use Rattle.casa_session.proofs.Moments.{Start, Moment}
use Rattle.casa_session.proofs.Runs.{Reading}
use Rattle.casa_session.proofs.session.run.Given as goal

-- what a session starts with, by its reader, desk and writer
abbrev pub start : (g : goal.Over) → g.row.R.Denot → g.row.D.Denot → g.row.W.Denot → Start
start g reader desk writer = record {
  input = g.R.Read.remaining reader;
  receipts = g.D.Desk.answered desk;
  output = g.W.Write.contents writer;
}

-- the moment at which these stand so
abbrev pub moment : (g : goal.Over) → g.row.R.Denot → g.row.D.Denot → g.row.W.Denot → Replies → Moment
moment g reader desk writer replies = record {
  left = g.R.Read.remaining reader;
  receipts = g.D.Desk.answered desk;
  output = g.W.Write.contents writer;
  replies = replies;
}

abbrev pub invariant-lines : goal.invariant-lines
invariant-lines g l = record {
  reading : Reading (start g l.fn.reader l.fn.desk l.fn.writer) (moment g l.reader l.desk l.writer l.replies)
      l.count l.asked l.line.items (pending l.lines);
  few : l.count + steps_left l.lines < 2 ^ 49;
}

abbrev pub decreases-lines : goal.decreases-lines
decreases-lines g l = steps_left l.lines
