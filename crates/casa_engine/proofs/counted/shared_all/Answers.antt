use Rattle.std.proofs.Common.{◌≡◌, ◌+◌, ◌<◌, ◌++◌, ◌∷◌, [], length, take, sym, ◌∙◌, ap, rules}
use Rattle.std.proofs.lemmas.List.{take_all, take_more}
use Rattle.casa_engine.proofs.counted.shared_all.Goals as goal

pub loop-entry-preserved : goal.loop-entry-preserved
loop-entry-preserved g c =
    let es = c.args.entries.now in
    let i = c.loop-entry.entry-index in
    let e = c.entry-item.result in
    let within : i < length es = search rules in
    c.in_ok-push.ensures.items ∙ (λ j. c.loop-entry.invariant j ++ (c.in_ok-share.ensures ∙ c.entry-item.is) j ∷ []) ∙ sym (take_more es i e within)

pub returns : goal.returns
returns g c = c.loop-entry.invariant ∙ take_all c.loop-entry.entry-index c.args.entries.now c.loop-entry-test.false
