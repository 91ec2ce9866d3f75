use Rattle.std.proofs.Common.{refl, sym, subst, arith, rules}
use Rattle.casa_commit.specs.Rooms.{entries_of}
use Rattle.casa_tape.specs.Journals.{LeavesOnly}
use Rattle.casa_day.specs.Journals.{Keeps}
use Rattle.casa_day.proofs.Keeping.{kept_now}
use Rattle.casa_day.proofs.Lists.{grows_not}
use Rattle.casa_day.proofs.Telling.{tell_running, tell_grows}
use Rattle.casa_day.proofs.day.Day.tell.Goals as goal

pub returns-clause-running : goal.returns-clause-running
returns-clause-running g c =
    let day = c.args.self.now in
    tell_running g.S.Script g.T.Tape (entries_of day.room) day.journal c.tell.new.self c.tell.result _ (g.met.T.Tape.only_now day.journal.tape) c.tell.ensures.same c.tell.ensures.told c.tell.ensures.untold c.requires

pub returns-clause-went_on : goal.returns-clause-went_on
returns-clause-went_on g c =
    let day = c.args.self.now in
    let running = returns-clause-running g c in
    record {
      safe = running.safe;
      history = grows_not (entries_of day.room);
      told = tell_grows day.journal c.tell.new.self c.tell.result _ c.tell.ensures.told c.tell.ensures.untold;
      journaled = omega (arith, c.tell.ensures.same.1);
      any_moment = subst (λ tape. LeavesOnly g.T.Tape day.journal.tape tape (Keeps g.S.Script (entries_of day.room) day.journal.journaled)) (sym c.tell.ensures.same.0)
          (kept_now g.S.Script g.T.Tape (entries_of day.room) day.journal (g.met.T.Tape.only_now day.journal.tape) c.requires);
      desks = refl;
      running = search rules;
      cause = search rules;
    }
