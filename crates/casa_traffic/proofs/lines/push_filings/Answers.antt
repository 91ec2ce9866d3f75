use Rattle.std.proofs.Common.{◌∙◌, ◌++◌, ap, subst}
use Rattle.std.proofs.lemmas.List.Elements.{All-more}
use Rattle.casa_traffic.specs.Calls.{file_call}
use Rattle.casa_traffic.specs.Lines.{IsReadAgain, line}
use Rattle.casa_traffic.proofs.More.{text_more}
use Rattle.casa_traffic.proofs.lines.push_filings.Goals as goal

pub loop-plan-preserved : goal.loop-plan-preserved
loop-plan-preserved c =
    let xs = c.args.plans.now in
    let i = c.loop-plan.plan-index in
    let x = c.plan-item.result in
    let wrote = c.in_ok-push_line.ensures.written ∙ ap (λ p. c.loop-plan.text.items ++ line (file_call p)) c.in_ok-try_clone.ensures in
    let again = subst (λ p. IsReadAgain (file_call p)) (c.in_ok-try_clone.ensures ∙ c.plan-item.is) c.in_ok-push_line.ensures.again in (
      text_more (λ y. line (file_call y)) xs i x c.args.text.now.items c.loop-plan.text.items c.push_line.new.text.items
          c.loop-plan-test.true c.plan-item.is c.loop-plan.invariant.0 wrote,
      All-more (λ y. IsReadAgain (file_call y)) xs i x c.loop-plan-test.true c.loop-plan.invariant.1 again,
    )
