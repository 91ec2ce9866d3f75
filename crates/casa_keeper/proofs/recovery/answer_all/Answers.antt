use Rattle.std.proofs.Common.{◌≡◌, ◌+◌, ◌∷◌, [], length, Err, ◌∙◌, ap, arith, rules, length-append}
use Rattle.casa_day.proofs.Restoring.{if_err}
use Rattle.casa_day.proofs.Replaying.{replay_goes_on, replay_ends, replay_refused}
use Rattle.casa_engine.specs.Fronts.{front_of}
use Rattle.casa_keeper.proofs.Answered.{refused_for}
use Rattle.casa_keeper.proofs.recovery.answer_all.Goals as goal

pub returns-in_err-answer_again-clause-refused : goal.returns-in_err-answer_again-clause-refused
returns-in_err-answer_again-clause-refused g c =
    let fault = c.in_err-answer_again.field-0.0 in
    let is : c.from_residual.result ≡ Err fault = search rules in
    if_err _ c.from_residual.result fault is
    (refused_for _ _ fault
    (λ why refused lines are whole.
    replay_refused g.S.Script _ lines c.loop-line.rest.now c.in-Some.line.now c.in-Some.others.now (front_of c.loop-line.desk) c.loop-line.position why
    c.in-Some.ensures.split c.in-Some.ensures.line c.loop-line.desk.legal refused (c.loop-line.invariant.said lines are whole))
    c.in_err-answer_again.ensures.refused)

pub loop-line-preserved : goal.loop-line-preserved
loop-line-preserved g c =
    let before = c.loop-line.invariant in
    let said = c.in_ok-answer_again.ensures.said in
    let shorter : length c.loop-line.rest.now ≡ length c.in-Some.line.now + (1 + length c.in-Some.others.now) =
    ap length c.in-Some.ensures.split ∙ length-append c.in-Some.line.now (10 ∷ c.in-Some.others.now) ∙ omega arith in
    record {
      within = omega (arith, before.within, shorter);
      count = omega (arith, before.count, ap (λ es. length es) said.2, length-append (front_of c.loop-line.desk) (said.0 ∷ []));
      said = λ lines are whole.
          replay_goes_on g.S.Script lines c.loop-line.rest.now c.in-Some.line.now c.in-Some.others.now (front_of c.loop-line.desk) (front_of c.answer_again.new.desk) said.0 c.loop-line.position
          c.in-Some.ensures.split c.in-Some.ensures.line said.1 said.2 (before.said lines are whole);
    }

pub returns-clause-said : goal.returns-clause-said
returns-clause-said g c lines are whole =
    replay_ends g.S.Script lines c.loop-line.rest.now (front_of c.loop-line.desk) c.loop-line.position c.in_default.ensures.none (c.loop-line.invariant.said lines are whole)
