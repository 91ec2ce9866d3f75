use Rattle.std.proofs.Common.{[], sym, ◌∙◌, subst}
use Rattle.casa_tape.specs.Lines.{StandsAs}
use Rattle.casa_tape.specs.Journals.{LeavesOnly}
use Rattle.casa_keeper.proofs.Answered.{kept_not_refused, refused_for}
use Rattle.casa_keeper.proofs.opening.open.Goals as goal

pub returns-in-Err-clause-accepted : goal.returns-in-Err-clause-accepted
returns-in-Err-clause-accepted g c =
    refused_for _ _ c.in-Err.fault
    (λ why refused history least xs legal held keeps of. kept_not_refused g.S.Script _ history least xs why legal keeps (refused of xs held) of)
    c.in-Err.ensures.refused

pub returns-in-Ok-clause-opened : goal.returns-in-Ok-clause-opened
returns-in-Ok-clause-opened g c =
    let noted = c.begin-kept.ensures.noted in
    record {
      noted = record { before = []; note = noted.note; is = c.of.ensures.notes ∙ noted.is; position = noted.position };
      any_moment = subst (λ d. LeavesOnly g.T.Tape c.args.tape d (StandsAs (g.T.Tape.may_leave c.args.tape))) (sym noted.at) c.restore.ensures.any_moment;
    }
