use Rattle.std.proofs.Common.{◌≡◌, ◌∙◌, refl, sym, subst, Some, Bool, true, false}
use Rattle.casa_app.specs.Remarked.{IsSaid}
use Rattle.casa_app.specs.Remarks.{said}
use Rattle.casa_app.proofs.Remarked.{all_answered, all_said, is_said, some_said}
use Rattle.casa_app.proofs.printing.answer_lines.Goals.{else-strict-via-then-strict+else-not-is_empty, else-strict-via-else-strict}
use Rattle.casa_app.proofs.printing.answer_lines.Goals as goal

pub returns-then-not-is_empty-clause-says : goal.returns-then-not-is_empty-clause-says
returns-then-not-is_empty-clause-says g c =
    let v = g.E.Write.contents c.args.errors.now in
    let w = g.E.Write.contents c.say.new.writer in
    let replies = c.run-ended.new.writer.trail.bytes in
    let says = subst (λ (b : Bool). IsSaid v w (said b replies)) c.is_marked.ensures (is_said c.say.result v w (said c.is_marked.result replies) c.say.ensures.ok c.say.ensures.err) in (
      c.if-strict.true,
      some_said _ (g.R.Read.remaining c.args.input.now.source) (g.R.Read.remaining c.run-ended.new.reader.source) v w c.in_ok-lone.lone c.run-ended.new.self c.in_ok-ended.field-0 c.new-remarks.result.trail.bytes replies
          c.in_ok-lone.ensures c.new-remarks.ensures c.in_ok-ended.ensures says (λ clean. let no : false ≡ true = c.if-not-is_empty.ensures.1 clean in cc),
    )

pub returns-clause-whole : goal.returns-clause-whole
returns-clause-whole g c =
    all_answered (g.R.Read.remaining c.args.input.now.source) (g.R.Read.remaining c.run-ended.new.reader.source) (Some c.new-remarks.result.trail.bytes) (Some c.run-ended.new.writer.trail.bytes)
    c.in_ok-lone.lone c.run-ended.new.self c.in_ok-ended.field-0 c.in_ok-lone.ensures c.in_ok-ended.ensures

pub returns-clause-says : goal.returns-clause-says
returns-clause-says g c =
    let v = g.E.Write.contents c.args.errors.now in
    let w = g.E.Write.contents c.say.new.writer in
    let replies = c.run-ended.new.writer.trail.bytes in
    let says = subst (λ (b : Bool). IsSaid v w (said b replies)) c.is_marked.ensures (is_said c.say.result v w (said c.is_marked.result replies) c.say.ensures.ok c.say.ensures.err) in
    all_said c.args.strict _ (g.R.Read.remaining c.args.input.now.source) (g.R.Read.remaining c.run-ended.new.reader.source) v w c.in_ok-lone.lone c.run-ended.new.self c.in_ok-ended.field-0 c.new-remarks.result.trail.bytes replies
    c.in_ok-lone.ensures c.new-remarks.ensures c.in_ok-ended.ensures says (elim c.else-strict.branch [
      | else-strict-via-then-strict+else-not-is_empty b ↦ λ is. b.if-not-is_empty.ensures.0 refl
      | else-strict-via-else-strict b ↦ λ is. let no : false ≡ true = sym b.if-strict.false ∙ is in cc
    ])
