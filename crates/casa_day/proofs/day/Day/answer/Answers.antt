use Rattle.std.proofs.Common.{◌∷◌, [], refl, sym, ◌∙◌, subst, arith, rules}
use Rattle.std.proofs.lemmas.List.{append-nil}
use Rattle.casa_commit.specs.Rooms.{entries_of, next_entry}
use Rattle.casa_day.specs.Journals.{IsRunning}
use Rattle.casa_day.proofs.Keeping.{kept_now, running_more}
use Rattle.casa_day.proofs.Lists.{grows_not}
use Rattle.casa_day.proofs.day.Day.answer.Goals as goal

pub returns-in_ok-answer-clause-running : goal.returns-in_ok-answer-clause-running
returns-in_ok-answer-clause-running g c =
    let day = c.args.self.now in
    let new = next_entry day.room c.args.desk c.args.call.now in
    subst (λ es. IsRunning g.S.Script g.T.Tape es day.journal) (sym c.in_ok-answer.ensures.accepted.1.history)
    (running_more g.S.Script g.T.Tape (entries_of day.room) (new ∷ []) day.journal c.requires)

pub returns-in_ok-answer-clause-went_on : goal.returns-in_ok-answer-clause-went_on
returns-in_ok-answer-clause-went_on g c =
    let extended = c.in_ok-answer.ensures.accepted.1 in
    let running = returns-in_ok-answer-clause-running g c in
    record {
      safe = running.safe;
      history = (next_entry c.args.self.now.room c.args.desk c.args.call.now ∷ [], extended.history);
      told = grows_not c.args.self.now.journal.told.items;
      journaled = omega arith;
      any_moment = kept_now g.S.Script g.T.Tape _ c.args.self.now.journal (g.met.T.Tape.only_now c.args.self.now.journal.tape) running;
      desks = extended.desks;
      running = running;
      cause = search rules;
    }

pub returns-in_err-answer-clause-went_on : goal.returns-in_err-answer-clause-went_on
returns-in_err-answer-clause-went_on g c =
    let day = c.args.self.now in
    let same = c.in_err-answer.ensures.refused in
    let running = subst (λ es. IsRunning g.S.Script g.T.Tape es day.journal) (sym same.history) c.requires in
    record {
      safe = running.safe;
      history = ([], same.history ∙ sym (append-nil (entries_of day.room)));
      told = grows_not day.journal.told.items;
      journaled = omega arith;
      any_moment = kept_now g.S.Script g.T.Tape (entries_of c.answer.new.self) day.journal (g.met.T.Tape.only_now day.journal.tape) running;
      desks = same.desks;
      running = search rules;
      cause = search rules;
    }

pub returns-else-desk-desks-clause-went_on : goal.returns-else-desk-desks-clause-went_on
returns-else-desk-desks-clause-went_on g c =
    let day = c.args.self.now in
    record {
      safe = c.requires.safe;
      history = grows_not (entries_of day.room);
      told = grows_not day.journal.told.items;
      journaled = omega arith;
      any_moment = kept_now g.S.Script g.T.Tape (entries_of day.room) day.journal (g.met.T.Tape.only_now day.journal.tape) c.requires;
      desks = refl;
      running = c.requires;
      cause = λ failed. absurd (cc failed);
    }
