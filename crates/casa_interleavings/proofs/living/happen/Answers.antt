use Rattle.std.proofs.Common.{◌≡◌, Err, length, refl, sym, ap, subst, ◌∙◌, rules}
use Rattle.std.specs.Prelude.{IfErr}
use Rattle.casa_interleavings.specs.Runs.{run_history, run_outcomes}
use Rattle.casa_tape.specs.Journals.{LeavesOnly}
use Rattle.casa_day.specs.Journals.{IsRunning, IsSafe, Keeps}
use Rattle.casa_day.proofs.Keeping.{kept_now}
use Rattle.casa_day.proofs.Telling.{tell_running}
use Rattle.casa_interleavings.proofs.Going.{next_grows, next_goes}
use Rattle.casa_interleavings.proofs.Coursing.{stage_of, goes_by}
use Rattle.casa_interleavings.proofs.living.happen.Goals as goal

pub returns-in_ok-next-in-Do-clause-going : goal.returns-in_ok-next-in-Do-clause-going
returns-in_ok-next-in-Do-clause-going g c =
    let next = c.in_ok-next-in-Do in
    next_goes c.requires next.ensures.run
    (next_grows c.args.run next.next _ c.requires.is_run next.ensures.run next.ensures.events)

pub returns-in_ok-next-in-Do-clause-grows : goal.returns-in_ok-next-in-Do-clause-grows
returns-in_ok-next-in-Do-clause-grows g c =
    let next = c.in_ok-next-in-Do in
    next_grows c.args.run next.next _ c.requires.is_run next.ensures.run next.ensures.events

pub returns-in_ok-next-in-Do-clause-course : goal.returns-in_ok-next-in-Do-clause-course
returns-in_ok-next-in-Do-clause-course g c =
    let next = c.in_ok-next-in-Do in
    let journal = c.args.journal.now in
    goes_by g.S.Script g.T.Tape (stage_of c.args.run journal) (stage_of next.next journal) c.in-Do.is
    (next.ensures.events, refl)

pub returns-in_ok-flush-in-Flush-clause-course : goal.returns-in_ok-flush-in-Flush-clause-course
returns-in_ok-flush-in-Flush-clause-course g c =
    let run = c.args.run in
    let old = c.args.journal.now in
    let new = c.flush.new.self in
    let done = c.in_ok-flush-in-Flush.ensures in
    let history = c.history.ensures.same in
    goes_by g.S.Script g.T.Tape (stage_of run old) (stage_of run new) c.in-Flush.is (
      refl,
      record {
        history = run_history run;
        outcomes = run_outcomes run;
        is_run = c.requires.is_run;
        running = subst (λ es. IsRunning g.S.Script g.T.Tape es new) history done.running;
        all = done.all ∙ ap (λ es. length es) history;
        told = done.told;
        any_moment = subst (λ es. LeavesOnly g.T.Tape old.tape new.tape (Keeps g.S.Script es old.journaled)) history
            done.any_moment;
      },
    )

pub returns-in_ok-tell-in-Tell-clause-going : goal.returns-in_ok-tell-in-Tell-clause-going
returns-in_ok-tell-in-Tell-clause-going g c = record {
  is_run = c.requires.is_run;
  journaled = tell_running g.S.Script g.T.Tape (run_history c.args.run) c.args.journal.now c.tell.new.self c.tell.result _
      (g.met.T.Tape.only_now c.args.journal.now.tape) c.tell.ensures.same c.tell.ensures.told c.tell.ensures.untold c.requires.journaled;
}

pub returns-in_ok-tell-in-Tell-clause-course : goal.returns-in_ok-tell-in-Tell-clause-course
returns-in_ok-tell-in-Tell-clause-course g c =
    let run = c.args.run in
    let done = c.in_ok-tell-in-Tell.ensures in
    goes_by g.S.Script g.T.Tape (stage_of run c.args.journal.now) (stage_of run c.tell.new.self) c.in-Tell.is
    (refl, record { tape = done.same.0; journaled = done.same.1; now = done.told })

pub returns-in_err-tell-in-Tell-clause-safe : goal.returns-in_err-tell-in-Tell-clause-safe
returns-in_err-tell-in-Tell-clause-safe g c =
    let told = c.in_err-tell-in-Tell in
    let is : c.from_residual-in_err-tell-in-Tell.result ≡ Err told.field-0.0 = search rules in
    subst (λ r. IfErr r (λ _. IsSafe g.S.Script g.T.Tape (run_history c.args.run) c.tell.new.self)) (sym is)
    (tell_running g.S.Script g.T.Tape (run_history c.args.run) c.args.journal.now c.tell.new.self c.tell.result _
    (g.met.T.Tape.only_now c.args.journal.now.tape) c.tell.ensures.same c.tell.ensures.told c.tell.ensures.untold c.requires.journaled).safe

pub returns-in_err-next-in-Do-clause-any_moment : goal.returns-in_err-next-in-Do-clause-any_moment
returns-in_err-next-in-Do-clause-any_moment g c =
    kept_now g.S.Script g.T.Tape (run_history c.args.run) c.args.journal.now
    (g.met.T.Tape.only_now c.args.journal.now.tape) c.requires.journaled

pub returns-in_ok-next-in-Do-clause-any_moment : goal.returns-in_ok-next-in-Do-clause-any_moment
returns-in_ok-next-in-Do-clause-any_moment g c =
    kept_now g.S.Script g.T.Tape (run_history c.args.run) c.args.journal.now
    (g.met.T.Tape.only_now c.args.journal.now.tape) c.requires.journaled

pub returns-in_err-tell-in-Tell-clause-any_moment : goal.returns-in_err-tell-in-Tell-clause-any_moment
returns-in_err-tell-in-Tell-clause-any_moment g c =
    let journal = c.args.journal.now in
    subst (λ tape. LeavesOnly g.T.Tape journal.tape tape (Keeps g.S.Script (run_history c.args.run) journal.journaled))
    (sym c.tell.ensures.same.0)
    (kept_now g.S.Script g.T.Tape (run_history c.args.run) journal (g.met.T.Tape.only_now journal.tape) c.requires.journaled)

pub returns-in_ok-tell-in-Tell-clause-any_moment : goal.returns-in_ok-tell-in-Tell-clause-any_moment
returns-in_ok-tell-in-Tell-clause-any_moment g c =
    let journal = c.args.journal.now in
    subst (λ tape. LeavesOnly g.T.Tape journal.tape tape (Keeps g.S.Script (run_history c.args.run) journal.journaled))
    (sym c.tell.ensures.same.0)
    (kept_now g.S.Script g.T.Tape (run_history c.args.run) journal (g.met.T.Tape.only_now journal.tape) c.requires.journaled)
