use Rattle.std.proofs.Common.{◌≡◌, suc, ◌+◌, ◌-◌, ap, ◌∙◌, arith}
use Rattle.casa_app.specs.Remarks.{word}
use Rattle.casa_app.proofs.notes.word.Goals as goal

pub marks-preserved : goal.marks-preserved
marks-preserved c =
    let left = c.args.marks - (c.marks.counter + 1) in
    let one_more : suc left ≡ c.args.marks - c.marks.counter = omega arith in
    record {
      word = ap (word left) c.behind_mark-rest.ensures.behind ∙ ap (λ n. word n c.marks.rest.now) one_more ∙ c.marks.invariant.word;
      short = omega arith;
    }
