use Rattle.std.proofs.Common.{sym, ◌∙◌, ap, subst, length}
use Rattle.casa_kept.specs.Notes.{Has, IsNotedNow}
use Rattle.casa_kept.proofs.Standing.{begun_file}
use Rattle.casa_kept.proofs.kept.Kept.begin.Goals as goal

pub invariant_of-result : goal.invariant_of-result
invariant_of-result g c = (
  c.requires.count ∙ ap (λ es. length es) (sym c.again.ensures),
  begun_file g.S.Script g.T.Tape _ c.again.result c.args.tape c.named-notes.result c.note.new.notes c.args.count (g.met.T.Tape.only_now c.args.tape)
      (subst (λ es. Has g.S.Script g.T.Tape es c.args.tape) (sym c.again.ensures) c.requires.has) (c.requires.count ∙ ap (λ es. length es) (sym c.again.ensures)) c.named-notes.ensures c.note.ensures,
)

pub returns-clause-noted : goal.returns-clause-noted
returns-clause-noted g c = subst (λ notes. IsNotedNow notes c.note.new.notes c.args.tape c.args.count) c.named-notes.ensures c.note.ensures
