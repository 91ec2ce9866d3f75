use Rattle.std.proofs.Common.{sym, ◌∙◌}
use Rattle.casa_trial.proofs.Told.{told}
use Rattle.casa_trial.proofs.tried.answered.Goals as goal

pub returns-then-came_to_end-clause-text : goal.returns-then-came_to_end-clause-text
returns-then-came_to_end-clause-text g c =
    (told c.run-ended.result c.args.trial.now c.run-ended.new.self c.args.lines.now c.new-text.result.items c.run-ended.new.writer.items _ (sym c.came_to_end.ensures ∙ c.if-came_to_end.true) c.new-text.ensures.items c.run-ended.ensures).0

pub returns-then-came_to_end-clause-calls : goal.returns-then-came_to_end-clause-calls
returns-then-came_to_end-clause-calls g c =
    (told c.run-ended.result c.args.trial.now c.run-ended.new.self c.args.lines.now c.new-text.result.items c.run-ended.new.writer.items _ (sym c.came_to_end.ensures ∙ c.if-came_to_end.true) c.new-text.ensures.items c.run-ended.ensures).1
