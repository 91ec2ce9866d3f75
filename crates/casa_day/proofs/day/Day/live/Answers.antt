use Rattle.std.proofs.Common.{◌≡◌, ◌<◌, length, take, refl, sym, ◌∙◌, ap, arith, rules}
use Rattle.std.proofs.lemmas.List.Sums.{fold_more}
use Rattle.casa_commit.specs.Rooms.{entries_of, open_desks}
use Rattle.casa_day.specs.Courses.{course_of, step, steps}
use Rattle.casa_day.proofs.Keeping.{kept_now, kept_on}
use Rattle.casa_day.proofs.Lists.{grows_not, grows_on}
use Rattle.casa_day.proofs.day.Day.live.Goals as goal

pub loop-event-init : goal.loop-event-init
loop-event-init g c =
    let day = c.args.self.now in
    record {
      running = c.requires;
      history = grows_not (entries_of day.room);
      told = grows_not day.journal.told.items;
      journaled = omega arith;
      any_moment = kept_now g.S.Script g.T.Tape (entries_of day.room) day.journal (g.met.T.Tape.only_now day.journal.tape) c.requires;
      desks = refl;
      course = refl;
    }

pub loop-event-preserved : goal.loop-event-preserved
loop-event-preserved g c =
    let day = c.loop-event.self in
    let before = c.loop-event.invariant in
    let after = c.in_ok-happen.ensures.went_on in
    let desks = open_desks c.args.self.now.room in
    let i = c.loop-event.event-index in
    let es = c.args.events.now in
    let e = c.event-item.result in
    let within : i < length es = search rules in
    let so_far = steps desks (take i es) (course_of c.args.self.now) in
    record {
      running = after.running;
      history = grows_on _ _ _ before.history after.history;
      told = grows_on _ _ _ before.told after.told;
      journaled = omega (arith, before.journaled, after.journaled);
      any_moment = kept_on g.S.Script g.T.Tape _ _ c.args.self.now.journal.journaled c.loop-event.self.journal.journaled c.args.self.now.journal.tape c.loop-event.self.journal.tape
          c.happen.new.self.journal.tape after.history before.journaled before.any_moment after.any_moment;
      desks = after.desks ∙ before.desks;
      course = c.in_ok-happen.ensures.course ∙ ap (λ d. step d e (course_of day)) before.desks ∙ ap (step desks e) before.course
          ∙ ap (λ x. step desks x so_far) c.event-item.is
          ∙ sym (fold_more (λ a x. step desks x a) (course_of c.args.self.now) es i e within);
    }

pub returns-in_err-happen-clause-went_on : goal.returns-in_err-happen-clause-went_on
returns-in_err-happen-clause-went_on g c =
    let before = c.loop-event.invariant in
    let after = c.happen.ensures.went_on in
    record {
      safe = after.safe;
      history = grows_on _ _ _ before.history after.history;
      told = grows_on _ _ _ before.told after.told;
      journaled = omega (arith, before.journaled, after.journaled);
      any_moment = kept_on g.S.Script g.T.Tape _ _ c.args.self.now.journal.journaled c.loop-event.self.journal.journaled c.args.self.now.journal.tape c.loop-event.self.journal.tape
          c.happen.new.self.journal.tape after.history before.journaled before.any_moment after.any_moment;
      desks = after.desks ∙ before.desks;
      running = search rules;
      cause = search rules;
    }

pub returns-in_err-happen-clause-course : goal.returns-in_err-happen-clause-course
returns-in_err-happen-clause-course g c =
    let within : c.loop-event.event-index < length c.args.events.now = search rules in
    record {
      happened = c.loop-event.event-index;
      within = omega (arith, within);
      all = search rules;
      failed = search rules;
      leads = c.in_err-happen.ensures.nothing_happened ∙ c.loop-event.invariant.course;
    }

pub returns-clause-course : goal.returns-clause-course
returns-clause-course g c =
    let all : c.loop-event.event-index ≡ length c.args.events.now = search rules in
    record {
      happened = c.loop-event.event-index;
      within = omega (arith, all);
      all = all;
      failed = tt;
      leads = c.loop-event.invariant.course;
    }
