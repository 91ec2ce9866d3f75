use Rattle.std.proofs.Common.{length, arith, length-drop, ap}
use Rattle.casa_day.proofs.Flushing.{text_is, flush_keeps, flush_safe, flush_running}
use Rattle.casa_day.proofs.Keeping.{kept_now}
use Rattle.casa_day.proofs.journal.Journal.write.Goals as goal

pub returns-in_err-append-clause-safe : goal.returns-in_err-append-clause-safe
returns-in_err-append-clause-safe g c history running behind =
    let journal = c.args.self.now in
    let text = text_is g.S.Script journal.journaled history c.args.behind.now c.in_ok-text.text.items c.deref.result.now behind c.deref.ensures.value c.in_ok-text.ensures in
    flush_safe g.S.Script g.T.Tape history journal c.append.new.tape c.deref.result.now text running c.append.ensures.any_moment

pub returns-clause-safe : goal.returns-clause-safe
returns-clause-safe g c history running behind =
    let journal = c.args.self.now in
    let text = text_is g.S.Script journal.journaled history c.args.behind.now c.in_ok-text.text.items c.deref.result.now behind c.deref.ensures.value c.in_ok-text.ensures in
    flush_safe g.S.Script g.T.Tape history journal c.append.new.tape c.deref.result.now text running c.append.ensures.any_moment

pub returns-clause-running : goal.returns-clause-running
returns-clause-running g c history running behind =
    let journal = c.args.self.now in
    let text = text_is g.S.Script journal.journaled history c.args.behind.now c.in_ok-text.text.items c.deref.result.now behind c.deref.ensures.value c.in_ok-text.ensures in
    flush_running g.S.Script g.T.Tape history journal c.append.new.tape c.deref.result.now text running c.append.ensures.any_moment
    _ (omega (arith, running.within, length-drop journal.journaled history, ap (λ es. length es) behind)) c.in_ok-append.ensures.settled

pub returns-in_err-text-clause-any_moment : goal.returns-in_err-text-clause-any_moment
returns-in_err-text-clause-any_moment g c history running behind =
    kept_now g.S.Script g.T.Tape history c.args.self.now (g.met.T.Tape.only_now c.args.self.now.tape) running

pub returns-in_err-append-clause-any_moment : goal.returns-in_err-append-clause-any_moment
returns-in_err-append-clause-any_moment g c history running behind =
    let journal = c.args.self.now in
    let text = text_is g.S.Script journal.journaled history c.args.behind.now c.in_ok-text.text.items c.deref.result.now behind c.deref.ensures.value c.in_ok-text.ensures in
    flush_keeps g.S.Script g.T.Tape history journal c.append.new.tape c.deref.result.now text running c.append.ensures.any_moment

pub returns-clause-any_moment : goal.returns-clause-any_moment
returns-clause-any_moment g c history running behind =
    let journal = c.args.self.now in
    let text = text_is g.S.Script journal.journaled history c.args.behind.now c.in_ok-text.text.items c.deref.result.now behind c.deref.ensures.value c.in_ok-text.ensures in
    flush_keeps g.S.Script g.T.Tape history journal c.append.new.tape c.deref.result.now text running c.append.ensures.any_moment
