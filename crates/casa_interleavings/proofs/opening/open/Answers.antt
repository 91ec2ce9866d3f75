use Rattle.std.proofs.Common.{◌≡◌, length, refl, sym, ◌∙◌, ap, subst}
use Rattle.std.specs.Prelude.{take}
use Rattle.casa_tape.specs.Lines.{whole_lines}
use Rattle.casa_tape.specs.Journals.{IsSettled}
use Rattle.casa_day.specs.Scripts.{Say}
use Rattle.casa_day.proofs.Following.{not_refused}
use Rattle.casa_day.proofs.Keeping.{running_begun}
use Rattle.casa_interleavings.specs.Runs.{run_history}
use Rattle.casa_interleavings.proofs.Legal.{legal_take}
use Rattle.casa_interleavings.proofs.opening.open.Goals as goal

pub returns-in-Err-clause-accepted : goal.returns-in-Err-clause-accepted
returns-in-Err-clause-accepted g c history least xs is held keeps of =
    not_refused g.S.Script _ (whole_lines xs) (take keeps.count history) c.in-Err.fault (legal_take keeps.count history is) keeps.said
    (c.in-Err.ensures.refused of xs held) of

pub returns-in-Ok-begin-clause-opened : goal.returns-in-Ok-begin-clause-opened
returns-in-Ok-begin-clause-opened g c xs held =
    let r = c.in-Ok.ensures.reopened in
    let run = c.in-Ok.run' in
    let begun = c.in-Ok-begin.ensures.begun in
    let count : c.len-journaled.result ≡ length (run_history run) = c.len-journaled.ensures ∙ ap (λ es. length es) c.history.ensures.same in
    record {
      said = subst (λ ls. Say g.S.Script 1 ls (run_history run)) (r.found xs held) r.said;
      settled = subst (λ tape. IsSettled g.T.Tape tape (whole_lines xs)) (sym begun.tape_is) (subst (IsSettled g.T.Tape c.reopen.new.tape) (r.found xs held) r.settled);
      is_run = r.answered.is_run;
      events = r.answered.events;
      begun = record {
        tape_is = refl;
        journaled = begun.journaled ∙ count;
        opening = begun.opening;
        alone = begun.alone;
        all = begun.all ∙ count;
        now = begun.now ∙ sym begun.tape_is;
      };
    }

pub returns-in-Ok-begin-clause-running : goal.returns-in-Ok-begin-clause-running
returns-in-Ok-begin-clause-running g c =
    let r = c.in-Ok.ensures.reopened in
    let tape = c.reopen.new.tape in
    record {
      is_run = r.answered.is_run;
      journaled = running_begun g.S.Script g.T.Tape (run_history c.in-Ok.run') tape c.len-journaled.result r.lines c.in-Ok-begin.journal (g.met.T.Tape.only_now tape)
          c.in-Ok-begin.ensures.begun r.settled r.said (c.len-journaled.ensures ∙ ap (λ es. length es) c.history.ensures.same);
    }
