use Rattle.std.proofs.Common.{◌≡◌, ◌+◌, ◌∷◌, [], length, Err, sym, ◌∙◌, ap, arith, rules, length-append}
use Rattle.casa_day.proofs.Restoring.{if_err}
use Rattle.casa_day.proofs.Replaying.{replay_begins, replay_goes_on, replay_ends, replay_refused}
use Rattle.casa_interleavings.specs.Runs.{run_events, run_history, run_outcomes}
use Rattle.casa_interleavings.proofs.Legal.{legal, sequential_run}
use Rattle.casa_interleavings.proofs.opening.replay.Goals as goal

pub returns-in_err-run-clause-refused : goal.returns-in_err-run-clause-refused
returns-in_err-run-clause-refused g c =
    let run = c.loop-line.run in
    let before = c.loop-line.invariant in
    let fault = c.in_err-run.field-0.0 in
    let is : c.from_residual.result ≡ Err fault = search rules in
    if_err _ c.from_residual.result fault is
    (λ lines are whole.
    replay_refused g.S.Script _ lines c.loop-line.rest.now c.in-Some.line.now c.in-Some.others.now (run_history run) c.loop-line.position fault
    c.in-Some.ensures.split c.in-Some.ensures.line (legal (run_history run) (sequential_run (run_events run) (run_history run) (run_outcomes run) before.answered.is_run))
    c.in_err-run.ensures.refused (before.said lines are whole))

pub loop-line-preserved : goal.loop-line-preserved
loop-line-preserved g c =
    let run = c.loop-line.run in
    let next = c.in_ok-run.run' in
    let before = c.loop-line.invariant in
    let said = c.in_ok-run.ensures.said in
    let shorter : length c.loop-line.rest.now ≡ length c.in-Some.line.now + (1 + length c.in-Some.others.now) =
    ap length c.in-Some.ensures.split ∙ length-append c.in-Some.line.now (10 ∷ c.in-Some.others.now) ∙ omega arith in
    record {
      answered = c.in_ok-run.ensures.answered;
      place = omega (arith, before.place, ap length said.2, length-append (run_history run) (said.0 ∷ []));
      within = omega (arith, before.within, shorter);
      said = λ lines are whole.
          replay_goes_on g.S.Script lines c.loop-line.rest.now c.in-Some.line.now c.in-Some.others.now (run_history run) (run_history next) said.0 c.loop-line.position
          c.in-Some.ensures.split c.in-Some.ensures.line said.1 said.2 (before.said lines are whole);
    }

pub returns-clause-said : goal.returns-clause-said
returns-clause-said g c lines are whole =
    (replay_ends g.S.Script lines c.loop-line.rest.now (run_history c.loop-line.run) c.loop-line.position c.in_default.ensures.none (c.loop-line.invariant.said lines are whole)).0

pub loop-line-init : goal.loop-line-init
loop-line-init g c = record {
  answered = c.requires.again;
  place = ap (λ es. length es) (sym c.requires.empty);
  within = omega arith;
  said = λ lines are whole. replay_begins g.S.Script lines c.args.text.now (run_history c.args.empty) c.requires.empty are whole;
}
