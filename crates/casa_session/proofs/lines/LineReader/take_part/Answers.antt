use Rattle.std.proofs.Common.{rules, ◌+◌, ◌++◌, ◌∷◌, length, arith, ap, ◌∙◌}
use Rattle.std.specs.List.{slice_range}
use Rattle.casa_session.proofs.Parts.{pending_after}
use Rattle.casa_session.proofs.lines.LineReader.take_part.Goals as goal

pub returns-then-is_ended-clause-ok : goal.returns-then-is_ended-clause-ok
returns-then-is_ended-clause-ok c =
    let part = c.first_part-is_ended.result.0.now in
    let old = c.args.self.now in
    let split = rw c.if-is_ended.true at c.first_part-is_ended.ensures.split in
    let after = pending_after old.buffer old.start old.end (length part + 1) (omega arith) in
    (part, c.first_part-is_ended.ensures.whole, rw (c.if-is_ended.true) (split ∙ ap (λ l. part ++ 10 ∷ l) (after ∙ ap (λ n. slice_range old.buffer n old.end) {x = old.start + (length part + 1)} {y = old.start + length part + 1} (omega arith))), search rules)
