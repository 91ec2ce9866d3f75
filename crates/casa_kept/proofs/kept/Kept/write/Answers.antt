use Rattle.std.proofs.Common.{◌≡◌, true, false, sym, ◌∙◌, ap, subst, length, ◌+◌, ◌++◌}
use Rattle.casa_tape.specs.Journals.{LeavesOnly}
use Rattle.casa_day.specs.Journals.{Keeps}
use Rattle.casa_kept.specs.Notes.{IsFile, IsNotedNow, Journaled}
use Rattle.casa_kept.proofs.Standing.{all_long, all_stand_on, broken_file, nothing_written, write_keeps, written_file}
use Rattle.casa_kept.proofs.kept.Kept.write.Goals as goal

pub returns-in_default-clause-any_moment : goal.returns-in_default-clause-any_moment
returns-in_default-clause-any_moment g c =
    let whole : c.self.inside.is_broken ≡ false = ap (λ (v : Journaled _ _ _). v.is_broken) c.self.view_is ∙ c.requires.whole in
    let is = c.requires.behind ∙ ap (λ (v : Journaled _ _ _). v.front ++ c.args.behind.now) (sym c.self.view_is) in
    subst (λ (v : Journaled _ _ _). LeavesOnly g.T.Tape v.tape v.tape (Keeps g.S.Script c.args.now.now (length v.front))) c.self.view_is
    (nothing_written g.S.Script g.T.Tape c.self.inside.front c.args.behind.now c.args.now.now c.self.inside.tape (g.met.T.Tape.only_now c.self.inside.tape) (c.self.invariant.1.has whole) is)

pub invariant_of-self : goal.invariant_of-self
invariant_of-self g c =
    let whole : c.self.inside.is_broken ≡ false = ap (λ (v : Journaled _ _ _). v.is_broken) c.self.view_is ∙ c.requires.whole in
    let is = c.requires.behind ∙ ap (λ (v : Journaled _ _ _). v.front ++ c.args.behind.now) (sym c.self.view_is) in
    subst (λ es. (c.self.inside.count + length c.args.behind.now ≡ length es) × IsFile g.S.Script g.T.Tape true es c.append-appended.new.tape c.self.inside.notes) (sym c.again.ensures) (
      all_long c.self.inside.front c.args.behind.now c.args.now.now c.self.inside.count c.self.invariant.0 is,
      broken_file g.S.Script g.T.Tape c.args.now.now c.append-appended.new.tape c.self.inside.notes
          (all_stand_on g.S.Script g.T.Tape c.self.inside.front c.args.behind.now c.args.now.now c.self.inside.tape c.append-appended.new.tape c.in-Ok.text.items c.deref.result.now c.self.inside.count
          (c.self.invariant.1.has whole) c.self.invariant.0 is c.deref.ensures.value c.in-Ok.ensures c.append-appended.ensures.any_moment c.self.inside.notes c.self.invariant.1.stands),
    )

pub returns-in_default-appended-clause-any_moment : goal.returns-in_default-appended-clause-any_moment
returns-in_default-appended-clause-any_moment g c =
    let whole : c.self.inside.is_broken ≡ false = ap (λ (v : Journaled _ _ _). v.is_broken) c.self.view_is ∙ c.requires.whole in
    let is = c.requires.behind ∙ ap (λ (v : Journaled _ _ _). v.front ++ c.args.behind.now) (sym c.self.view_is) in
    subst (λ (v : Journaled _ _ _). LeavesOnly g.T.Tape v.tape c.append-appended.new.tape (Keeps g.S.Script c.args.now.now (length v.front))) c.self.view_is
    (write_keeps g.S.Script g.T.Tape c.self.inside.front c.args.behind.now c.args.now.now c.self.inside.tape c.append-appended.new.tape c.in-Ok.text.items c.deref.result.now c.self.inside.count
    (c.self.invariant.1.has whole) c.self.invariant.0 is c.deref.ensures.value c.in-Ok.ensures c.append-appended.ensures.any_moment)

pub invariant_of-self-2 : goal.invariant_of-self-2
invariant_of-self-2 g c =
    let whole : c.self.inside.is_broken ≡ false = ap (λ (v : Journaled _ _ _). v.is_broken) c.self.view_is ∙ c.requires.whole in
    let is = c.requires.behind ∙ ap (λ (v : Journaled _ _ _). v.front ++ c.args.behind.now) (sym c.self.view_is) in
    let long = all_long c.self.inside.front c.args.behind.now c.args.now.now c.self.inside.count c.self.invariant.0 is in
    subst (λ es. (c.self.inside.count + length c.args.behind.now ≡ length es) × IsFile g.S.Script g.T.Tape c.self.inside.is_broken es c.append-appended.new.tape c.note.new.notes) (sym c.again.ensures) (
      long,
      written_file g.S.Script g.T.Tape c.self.inside.front c.args.behind.now c.args.now.now c.self.inside.tape c.append-appended.new.tape c.in-Ok.text.items c.deref.result.now c.self.inside.count
          (c.self.invariant.1.has whole) c.self.invariant.0 is c.deref.ensures.value c.in-Ok.ensures c.append-appended.ensures.any_moment
          c.self.inside.is_broken c.self.inside.notes c.note.new.notes (c.self.inside.count + length c.args.behind.now) (g.met.T.Tape.only_now c.append-appended.new.tape) c.in-Ok-appended.ensures.settled
          c.self.invariant.1.stands long c.note.ensures,
    )

pub returns-clause-noted : goal.returns-clause-noted
returns-clause-noted g c =
    let is = c.requires.behind ∙ ap (λ (v : Journaled _ _ _). v.front ++ c.args.behind.now) (sym c.self.view_is) in
    let long = all_long c.self.inside.front c.args.behind.now c.args.now.now c.self.inside.count c.self.invariant.0 is in
    subst (λ (v : Journaled _ _ _). IsNotedNow v.notes c.note.new.notes c.append-appended.new.tape (length c.args.now.now)) c.self.view_is
    (subst (IsNotedNow c.self.inside.notes c.note.new.notes c.append-appended.new.tape) long c.note.ensures)

pub returns-clause-any_moment : goal.returns-clause-any_moment
returns-clause-any_moment g c =
    let whole : c.self.inside.is_broken ≡ false = ap (λ (v : Journaled _ _ _). v.is_broken) c.self.view_is ∙ c.requires.whole in
    let is = c.requires.behind ∙ ap (λ (v : Journaled _ _ _). v.front ++ c.args.behind.now) (sym c.self.view_is) in
    subst (λ (v : Journaled _ _ _). LeavesOnly g.T.Tape v.tape c.append-appended.new.tape (Keeps g.S.Script c.args.now.now (length v.front))) c.self.view_is
    (write_keeps g.S.Script g.T.Tape c.self.inside.front c.args.behind.now c.args.now.now c.self.inside.tape c.append-appended.new.tape c.in-Ok.text.items c.deref.result.now c.self.inside.count
    (c.self.invariant.1.has whole) c.self.invariant.0 is c.deref.ensures.value c.in-Ok.ensures c.append-appended.ensures.any_moment)
