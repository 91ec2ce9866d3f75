use Rattle.std.proofs.Common.{◌<◌, [], ◌∷◌, ◌++◌, take, length, sym, ap, ◌∙◌, rules}
use Rattle.std.proofs.lemmas.List.{take_more}
use Rattle.casa_session.proofs.Runs.{passed_on}
use Rattle.casa_session.proofs.Several.{answers_next, fails_next}
use Rattle.casa_session.proofs.replies.Replies.answer_all.Goals as goal

pub returns-in_err-answer-clause-err : goal.returns-in_err-answer-clause-err
returns-in_err-answer-clause-err g c =
    let i = c.loop-meaning.meaning-index in
    let asked = c.args.asked.now in
    let within : i < length asked = search rules in
    let is = take_more asked i _ within ∙ ap (λ m. take i asked ++ m ∷ []) (sym c.meaning-item.is) in
    let fault = c.in_err-answer.field-0.0 in
    rw (passed_on c.from_residual.result c.from_residual.ensures)
    (fails_next asked i c.meaning-item.result is _ _ (g.D.Desk.answered c.answer.new.desk) _ _ _ _
    (g.W.Write.contents c.answer.new.writer) c.loop-meaning.invariant g.D.Desk.may_be_foreign fault
    c.in_err-answer.ensures.err)

pub loop-meaning-preserved : goal.loop-meaning-preserved
loop-meaning-preserved g c =
    let i = c.loop-meaning.meaning-index in
    let asked = c.args.asked.now in
    let within : i < length asked = search rules in
    let is = take_more asked i _ within ∙ ap (λ m. take i asked ++ m ∷ []) (sym c.meaning-item.is) in
    answers_next asked i c.meaning-item.result is _ _ (g.D.Desk.answered c.answer.new.desk) _ _ _ _
    (g.W.Write.contents c.answer.new.writer) c.loop-meaning.invariant c.answer.new.self c.in_ok-answer.ensures.ok
