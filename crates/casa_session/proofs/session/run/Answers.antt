use Rattle.std.proofs.Common.{◌≡◌, ℕ, ◌+◌, ◌<◌, List, [], length, Bool, true, false, arith, refl, ap, ◌∙◌}
use Rattle.std.proofs.lemmas.Grind.{common_steps}
use Rattle.std.specs.Prelude.{Ok, Err}
use Rattle.std.specs.Io.KnownBytes.{Consumes}
use Rattle.casa_session.specs.LineReader.{pending}
use Rattle.casa_session.specs.declared.lines.LineFault.{LineFault}
use Rattle.casa_session.proofs.Endings.{Finished, ends_at_asked, ends_at_last, ends_finished, ends_too_long, ends_unread, ends_unwritten, ends_without_memory, finished, finished_last, finished_written}
use Rattle.casa_session.proofs.Moments.{Start}
use Rattle.casa_session.proofs.Runs.{Between, after_read, all_answered, asked_anyhow, begins, begun_answered, line_taken, none_asked, passed_on, some_answered}
use Rattle.casa_session.proofs.session.run.Given.{Over}
use Rattle.casa_session.proofs.session.run.Invariants.{start, moment}
use Rattle.casa_session.proofs.session.run.Goals.{After-read, In_ok-answer_asked, In_ok-answer_line-in-End}
use Rattle.casa_session.proofs.session.run.Goals as goal

-- where no line ended, all that was asked was answered, and what was pending went to the line
begun : (g : Over) (c : In_ok-answer_asked g) {ended : Bool} → c.take_line-next.result ≡ Ok ended → ended ≡ false
    → Between (start g c.args.reader.now c.args.desk.now c.args.writer.now)
    (moment g c.lines.reader c.answer_asked.new.desk c.answer_asked.new.writer c.answer_asked.new.self)
    c.lines.count c.take_line-next.new.line.items []
begun g c told not =
    let is = told ∙ ap Ok not in
    let all = (rw is at c.are_due-all.ensures.begun) refl in
    begun_answered c.lines.invariant.reading (pending c.take_line-next.new.lines) _ _
    (rw is at c.take_line-next.ensures.ok) _ refl (rw all at c.in_ok-answer_asked.ensures.ok)

-- where the next line can't go on, all before it were answered
stopped : (g : Over) (c : In_ok-answer_asked g) (fault : LineFault) → c.take_line-next.result ≡ Err fault
    → Between (start g c.args.reader.now c.args.desk.now c.args.writer.now)
    (moment g c.lines.reader c.answer_asked.new.desk c.answer_asked.new.writer c.answer_asked.new.self)
    c.lines.count c.lines.line.items (pending c.lines.lines)
stopped g c fault is =
    let all = rw is at c.are_due-all.ensures.begun in
    let same = rw is at c.take_line-next.ensures.unchanged in
    all_answered c.lines.invariant.reading _ refl (rw (all, same) at c.in_ok-answer_asked.ensures.ok)

-- where no line ended, all that was gathered was written, and then a chunk was read
read_on : (g : Over) (c : After-read g) (chunk : List ℕ)
    → Between (start g c.args.reader.now c.args.desk.now c.args.writer.now)
    (moment g c.lines.reader c.answer_asked.new.desk c.answer_asked.new.writer c.answer_asked.new.self)
    c.lines.count c.take_line-next.new.line.items []
    → Consumes (g.R.Read.remaining c.lines.reader) (g.R.Read.remaining c.read.new.source) chunk
    → Between (start g c.args.reader.now c.args.desk.now c.args.writer.now)
    (moment g c.read.new.source c.answer_asked.new.desk c.write.new.writer c.write.new.self)
    c.lines.count c.take_line-next.new.line.items chunk
read_on g c chunk between given =
    let written = c.in_ok-write-in-Ok-false.ensures in
    after_read between _ chunk
    (record { same = refl; written = written.ok; none = written.none; count = written.count }) given

-- the last line, which no LF ended, was answered
last_answered : {from : Start} (g : Over) (c : In_ok-answer_line-in-End g)
    → Between from (moment g c.read.new.source c.answer_asked.new.desk c.write.new.writer c.write.new.self)
    c.lines.count c.take_line-next.new.line.items []
    → Finished from
    (moment g c.read.new.source c.answer_line.new.desk c.answer_line.new.writer c.answer_line.new.self)
    (c.lines.count + 1)
last_answered g c between =
    let some : 0 < length c.take_line-next.new.line.items = grind (arith, common_steps) in
    let answers = rw c.deref.ensures.value at (c.in_ok-answer_line-in-End.ensures.ok) in
    finished_last between c.in-End.ensures.given.1 some _ answers

pub lines-init : goal.lines-init
lines-init g c = record {
  reading = none_asked c.new-asked.result c.new-asked.ensures
      (begins (start g c.args.reader.now c.args.desk.now c.args.writer.now) c.new-replies.result
      c.new-line.result.items (pending c.new-lines.result) c.new-replies.ensures.none c.new-replies.ensures.written
      c.new-line.ensures.items c.new-lines.ensures.empty);
  few = omega (arith, c.new-lines.ensures.bound);
}

pub returns-in_err-answer_asked-clause-ends : goal.returns-in_err-answer_asked-clause-ends
returns-in_err-answer_asked-clause-ends g c =
    let now = moment g c.lines.reader c.answer_asked.new.desk c.answer_asked.new.writer c.answer_asked.new.self in
    let (_, _, _, asked) =
    asked_anyhow c.lines.invariant.reading c.take_line-next.result c.take_line-next.new.line.items
    (pending c.take_line-next.new.lines) c.take_line-next.new.asked c.take_line-next.ensures.ok
    c.take_line-next.ensures.unchanged in
    rw (passed_on c.from_residual.result c.from_residual.ensures)
    (ends_at_asked asked g.D.Desk.may_be_foreign _ now c.in_err-answer_asked.ensures.err)

pub lines-preserved-in-Ok-true : goal.lines-preserved-in-Ok-true
lines-preserved-in-Ok-true g c =
    let is = c.in-Ok-true.is ∙ ap Ok c.in-Ok-true.field-0-test in
    let (part, no_lf, split, short, taken) = rw is at c.take_line-next.ensures.ok in
    let fewer = (rw is at c.take_line-next.ensures.fewer) refl in
    let asked = line_taken c.lines.invariant.reading true part _ _ _ no_lf split short taken in
    record {
      reading =
          some_answered asked c.are_due-all.result _ c.answer_asked.new.asked refl c.in_ok-answer_asked.ensures.ok
          c.in_ok-answer_asked.ensures.left;
      few = omega (arith, fewer, c.lines.invariant.few);
    }

pub returns-in_err-write-in-Ok-false-clause-ends : goal.returns-in_err-write-in-Ok-false-clause-ends
returns-in_err-write-in-Ok-false-clause-ends g c =
    let steps = goal.at.returns-in_err-write-in-Ok-false-clause-ends g c in
    let output = g.W.Write.contents c.write.new.writer in
    let failed = c.from_residual-in_err-write-in-Ok-false in
    rw (passed_on failed.result failed.ensures)
    (ends_unwritten (begun g steps.In_ok-answer_asked c.in-Ok-false.is c.in-Ok-false.field-0-test).progress g.D.Desk.may_be_foreign _ output
    c.in_err-write-in-Ok-false.ensures.err)

pub lines-preserved : goal.lines-preserved
lines-preserved g c =
    let steps = goal.at.lines-preserved g c in
    let fewer = c.in-More.ensures.fewer refl in
    let is = c.in-Ok-false.is ∙ ap Ok c.in-Ok-false.field-0-test in
    let all = (rw is at c.are_due-all.ensures.begun) refl in
    let none = rw all at c.in_ok-answer_asked.ensures.left in
    let kept = rw is at c.take_line-next.ensures.kept in
    record {
      reading = none_asked c.answer_asked.new.asked none
          (read_on g steps.After-read (pending c.read.new.self) (begun g steps.In_ok-answer_asked c.in-Ok-false.is c.in-Ok-false.field-0-test) c.in-More.ensures.given);
      few = omega (arith, fewer, kept, c.lines.invariant.few);
    }

pub returns-in-Failed-clause-ends : goal.returns-in-Failed-clause-ends
returns-in-Failed-clause-ends g c =
    let steps = goal.at.returns-in-Failed-clause-ends g c in
    ends_unread (read_on g steps.After-read [] (begun g steps.In_ok-answer_asked c.in-Ok-false.is c.in-Ok-false.field-0-test) c.in-Failed.ensures.given) g.D.Desk.may_be_foreign
    c.in_ok-write-in-Ok-false.ensures.none

pub returns-in-Err-LineTooLong-clause-ends : goal.returns-in-Err-LineTooLong-clause-ends
returns-in-Err-LineTooLong-clause-ends g c =
    let steps = goal.at.returns-in-Err-LineTooLong-clause-ends g c in
    let is = c.in-Err-LineTooLong.is in
    let long = (rw is at c.take_line-next.ensures.too_long) (rw is at c.in-Err-LineTooLong.field-0-is) in
    ends_too_long (stopped g steps.In_ok-answer_asked _ is) g.D.Desk.may_be_foreign c.end_too_long.result
    (g.W.Write.contents c.end_too_long.new.writer) long c.end_too_long.ensures

pub returns-in-Err-NoMemory-clause-ends : goal.returns-in-Err-NoMemory-clause-ends
returns-in-Err-NoMemory-clause-ends g c =
    let steps = goal.at.returns-in-Err-NoMemory-clause-ends g c in
    ends_without_memory (stopped g steps.In_ok-answer_asked _ c.in-Err-NoMemory.is).progress g.D.Desk.may_be_foreign
    c.end.result (g.W.Write.contents c.end.new.writer) c.end.ensures

pub returns-in_err-answer_line-in-End-clause-ends : goal.returns-in_err-answer_line-in-End-clause-ends
returns-in_err-answer_line-in-End-clause-ends g c =
    let steps = goal.at.returns-in_err-answer_line-in-End-clause-ends g c in
    let between = read_on g steps.After-read [] (begun g steps.In_ok-answer_asked c.in-Ok-false.is c.in-Ok-false.field-0-test) c.in-End.ensures.given.0 in
    let some : 0 < length c.take_line-next.new.line.items = grind (arith, common_steps) in
    let now = moment g c.read.new.source c.answer_line.new.desk c.answer_line.new.writer c.answer_line.new.self in
    let fails = rw c.deref.ensures.value at (c.in_err-answer_line-in-End.ensures.err) in
    let failed = c.from_residual-in_err-answer_line-in-End in
    rw (passed_on failed.result failed.ensures)
    (ends_at_last between c.in-End.ensures.given.1 some g.D.Desk.may_be_foreign _ now fails)

pub returns-in_err-write-in-End-clause-ends : goal.returns-in_err-write-in-End-clause-ends
returns-in_err-write-in-End-clause-ends g c =
    let steps = goal.at.returns-in_err-write-in-End-clause-ends g c in
    let last = last_answered g steps.In_ok-answer_line-in-End (read_on g steps.After-read [] (begun g steps.In_ok-answer_asked c.in-Ok-false.is c.in-Ok-false.field-0-test) c.in-End.ensures.given.0) in
    let output = g.W.Write.contents c.write-in-End.new.writer in
    let failed = c.from_residual-in_err-write-in-End in
    rw (passed_on failed.result failed.ensures)
    (ends_unwritten last.progress g.D.Desk.may_be_foreign _ output c.in_err-write-in-End.ensures.err)

pub returns-in-End-clause-ends : goal.returns-in-End-clause-ends
returns-in-End-clause-ends g c =
    let steps = goal.at.returns-in-End-clause-ends g c in
    let last = last_answered g steps.In_ok-answer_line-in-End (read_on g steps.After-read [] (begun g steps.In_ok-answer_asked c.in-Ok-false.is c.in-Ok-false.field-0-test) c.in-End.ensures.given.0) in
    let now = moment g c.read.new.source c.answer_line.new.desk c.write-in-End.new.writer c.write-in-End.new.self in
    let written = c.in_ok-write-in-End.ensures in
    ends_finished (finished_written last now (record {
      same = refl;
      written = written.ok;
      none = written.none;
      count = written.count;
    })) g.D.Desk.may_be_foreign written.none

pub returns-then-is_empty-clause-ends : goal.returns-then-is_empty-clause-ends
returns-then-is_empty-clause-ends g c =
    let steps = goal.at.returns-then-is_empty-clause-ends g c in
    let given = c.in-End.ensures.given in
    let no_line : c.take_line-next.new.line.items ≡ [] = grind (arith, common_steps) in
    ends_finished (finished (read_on g steps.After-read [] (begun g steps.In_ok-answer_asked c.in-Ok-false.is c.in-Ok-false.field-0-test) given.0) given.1 no_line) g.D.Desk.may_be_foreign
    c.in_ok-write-in-Ok-false.ensures.none
