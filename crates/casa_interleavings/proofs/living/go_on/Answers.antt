use Rattle.std.proofs.Common.{◌≡◌, ◌+◌, ◌<◌, ◌++◌, ◌∷◌, [], length, take, refl, sym, subst, ap, ◌∙◌, arith, rules}
use Rattle.std.proofs.lemmas.List.{take_more}
use Rattle.casa_tape.proofs.Moments.{leaves_each}
use Rattle.casa_day.specs.Journals.{Keeps}
use Rattle.casa_day.proofs.Keeping.{keeps_more, kept_now, kept_on}
use Rattle.casa_day.proofs.Lists.{grows_not, grows_on}
use Rattle.casa_interleavings.specs.Runs.{run_history}
use Rattle.casa_interleavings.specs.Courses.{GoOn}
use Rattle.casa_interleavings.proofs.Coursing.{stage_of, goes_push}
use Rattle.casa_interleavings.proofs.Ending.{ended, cut_short}
use Rattle.casa_interleavings.proofs.living.go_on.Goals as goal

pub loop-event-init : goal.loop-event-init
loop-event-init g c = record {
  going = c.requires;
  grown = grows_not (run_history c.args.begun);
  journaled = omega arith;
  any_moment = kept_now g.S.Script g.T.Tape (run_history c.args.begun) c.args.opened
      (g.met.T.Tape.only_now c.args.opened.tape) c.requires.journaled;
  goes_on = refl;
}

pub loop-event-preserved : goal.loop-event-preserved
loop-event-preserved g c =
    let script = g.S.Script in
    let T = g.T.Tape in
    let before = c.loop-event.invariant in
    let after = c.in-Ok.ensures in
    let opened = c.args.opened in
    let old = c.loop-event.journal in
    let new = c.happen.new.journal in
    let run = c.loop-event.run in
    let history = run_history run in
    let next = c.in-Ok.next in
    let i = c.loop-event.event-index in
    let es = c.args.events.now in
    let e = c.event-item.result in
    let within : i < length es = search rules in
    let more : take (i + 1) es ≡ take i es ++ e ∷ [] =
    take_more es i e within ∙ ap (λ x. take i es ++ x ∷ []) (sym c.event-item.is) in
    record {
      going = after.going;
      grown = grows_on (run_history c.args.begun) history (run_history next) before.grown after.grows;
      journaled = omega (arith, before.journaled, after.journaled);
      any_moment = leaves_each T opened.tape new.tape
          (Keeps script history opened.journaled) (Keeps script (run_history next) opened.journaled)
          (λ file keeps. subst (λ es. Keeps script es opened.journaled file) (sym after.grows.1)
          (keeps_more script history after.grows.0 opened.journaled file keeps))
          (kept_on script T history history opened.journaled old.journaled opened.tape old.tape new.tape
          (grows_not history) before.journaled before.any_moment after.any_moment);
      goes_on = subst (λ es. GoOn script T es (stage_of c.args.begun opened) (stage_of next new)) (sym more)
          (goes_push script T (take i es) e (stage_of c.args.begun opened) (stage_of run old) (stage_of next new)
          before.goes_on after.course);
    }

pub returns-in-Err : goal.returns-in-Err
returns-in-Err g c =
    let left = c.in-Err.ensures in
    cut_short c.loop-event.invariant (search rules) c.in-Err.fault c.happen.new.journal
    left.any_moment left.not_journaled left.told left.safe left.cause

pub returns : goal.returns
returns g c = ended c.loop-event.invariant (search rules)
