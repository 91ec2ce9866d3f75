use Rattle.std.proofs.Common.{◌≡◌, ◌+◌, ◌<◌, ◌∷◌, List, ℕ, length, Err, sym, ◌∙◌, ap, subst, arith, rules, length-append}
use Rattle.std.specs.Prelude.{IfErr}
use Rattle.casa_commit.specs.Rooms.{entries_of}
use Rattle.casa_tape.specs.Lines.{AreLines, journal_of}
use Rattle.casa_day.specs.Refusals.{IsRefused}
use Rattle.casa_day.proofs.Replaying.{replay_goes_on, replay_ends, replay_refused}
use Rattle.casa_day.proofs.opening.replay.Goals as goal

pub returns-in_err-answer_again-clause-refused : goal.returns-in_err-answer_again-clause-refused
returns-in_err-answer_again-clause-refused g c =
    let is : c.from_residual.result ≡ Err c.in_err-answer_again.field-0.0 = search rules in
    subst (λ r. IfErr r (λ fault. (lines : List (List ℕ)) → AreLines lines → c.args.text.now ≡ journal_of lines → IsRefused g.S.Script g.W.World lines fault)) (sym is)
    (λ lines are whole.
    replay_refused g.S.Script g.W.World lines c.loop-line.rest.now c.in-Some.line.now c.in-Some.others.now (entries_of c.loop-line.room) c.loop-line.position c.in_err-answer_again.field-0.0
    c.in-Some.ensures.split c.in-Some.ensures.line c.loop-line.invariant.legal c.in_err-answer_again.ensures.refused (c.loop-line.invariant.said lines are whole))

pub loop-line-preserved : goal.loop-line-preserved
loop-line-preserved g c =
    let before = c.loop-line.invariant in
    let said = c.in_ok-answer_again.ensures.said in
    let desks = c.in_ok-answer_again.ensures.desks in
    let shorter : length c.loop-line.rest.now ≡ length c.in-Some.line.now + (1 + length c.in-Some.others.now) =
    ap length c.in-Some.ensures.split ∙ length-append c.in-Some.line.now (10 ∷ c.in-Some.others.now) ∙ omega arith in
    record {
      desk = subst (λ (n : ℕ). 0 < n) (sym desks) before.desk;
      desks = desks ∙ before.desks;
      within = omega (arith, before.within, shorter);
      legal = c.in_ok-answer_again.ensures.legal;
      said = λ lines are whole.
          replay_goes_on g.S.Script lines c.loop-line.rest.now c.in-Some.line.now c.in-Some.others.now (entries_of c.loop-line.room) (entries_of c.answer_again.new.room) said.0 c.loop-line.position
          c.in-Some.ensures.split c.in-Some.ensures.line said.1 said.2 (before.said lines are whole);
    }

pub returns-clause-said : goal.returns-clause-said
returns-clause-said g c lines are whole =
    replay_ends g.S.Script lines c.loop-line.rest.now (entries_of c.loop-line.room) c.loop-line.position c.in_default.ensures.none (c.loop-line.invariant.said lines are whole)
