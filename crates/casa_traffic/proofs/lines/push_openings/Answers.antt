use Rattle.std.proofs.Common.{◌∙◌, ◌++◌, ap, subst}
use Rattle.std.proofs.lemmas.List.Elements.{All-more}
use Rattle.casa_flight.specs.declared.call.Call.TheVariants as call
use Rattle.casa_traffic.specs.Calls.{open_call}
use Rattle.casa_traffic.specs.Lines.{IsReadAgain, line}
use Rattle.casa_traffic.proofs.More.{text_more}
use Rattle.casa_traffic.proofs.lines.push_openings.Goals as goal

pub loop-opening-preserved : goal.loop-opening-preserved
loop-opening-preserved c =
    let xs = c.args.openings.now in
    let i = c.loop-opening.opening-index in
    let x = c.opening-item.result in
    let wrote = c.in_ok-push_line.ensures.written ∙ ap (λ p. c.loop-opening.text.items ++ line (call.OpenReg x.reg x.loc p)) c.in_ok-profile.ensures in
    let again = subst (λ o. IsReadAgain (open_call o)) c.opening-item.is (subst (λ p. IsReadAgain (call.OpenReg x.reg x.loc p)) c.in_ok-profile.ensures c.in_ok-push_line.ensures.again) in (
      text_more (λ y. line (open_call y)) xs i x c.args.text.now.items c.loop-opening.text.items c.push_line.new.text.items
          c.loop-opening-test.true c.opening-item.is c.loop-opening.invariant.0 wrote,
      All-more (λ y. IsReadAgain (open_call y)) xs i x c.loop-opening-test.true c.loop-opening.invariant.1 again,
    )
