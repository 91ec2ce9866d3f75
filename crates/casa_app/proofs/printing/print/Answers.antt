use Rattle.std.proofs.Common.{subst}
use Rattle.std.specs.Io.KnownBytes.{Appends}
use Rattle.casa_session.specs.Sending.{IsCutOff}
use Rattle.casa_app.proofs.Printed.{ends_unanswered, says_unanswered}
use Rattle.casa_app.proofs.Remarked.{says_at}
use Rattle.casa_app.proofs.printing.print.Goals as goal

pub returns-in_err-text-clause-ends : goal.returns-in_err-text-clause-ends
returns-in_err-text-clause-ends g c =
    ends_unanswered (g.Q.Question.text_after c.args.question.now) c.from_residual-in_err-text.result c.in_err-text.field-0.0 c.in_ok-lone.lone _ _ _ c.from_residual-in_err-text.ensures.1 c.in_ok-lone.ensures.whole c.in_err-text.ensures.none

pub returns-in-Ok-clause-ends : goal.returns-in-Ok-clause-ends
returns-in-Ok-clause-ends g c =
    record {
      answered = c.in_ok-lone.lone;
      whole = c.in_ok-lone.ensures.whole;
      text = c.in_ok-text.text.items;
      made = c.in_ok-text.ensures.some;
      is_so = subst (Appends (g.W.Write.contents c.args.writer.now) (g.W.Write.contents c.send.new.writer)) c.deref.ensures.value c.in-Ok.ensures.ok;
    }

pub returns-clause-ends : goal.returns-clause-ends
returns-clause-ends g c =
    let (n, short, appended, count) = c.in-Err.ensures.err in
    record {
      answered = c.in_ok-lone.lone;
      whole = c.in_ok-lone.ensures.whole;
      text = c.in_ok-text.text.items;
      made = c.in_ok-text.ensures.some;
      is_so = subst (IsCutOff (g.W.Write.contents c.args.writer.now) (g.W.Write.contents c.send.new.writer)) c.deref.ensures.value (n, short, appended);
    }

pub returns-in_err-lone-clause-says : goal.returns-in_err-lone-clause-says
returns-in_err-lone-clause-says g c =
    says_at c.args.strict _ c.from_residual.result c.in_err-lone.field-0.0 _ _ _ _ c.from_residual.ensures.1 c.in_err-lone.ensures.says

pub returns-in_err-text-clause-says : goal.returns-in_err-text-clause-says
returns-in_err-text-clause-says g c =
    says_unanswered (g.Q.Question.text_after c.args.question.now) c.args.strict _ c.from_residual-in_err-text.result c.in_err-text.field-0.0 c.in_ok-lone.lone _ _ _ _ c.from_residual-in_err-text.ensures.1 c.in_err-text.ensures.none c.in_ok-lone.ensures.says

pub returns-in-Ok-clause-says : goal.returns-in-Ok-clause-says
returns-in-Ok-clause-says g c = c.in_ok-lone.ensures.says

pub returns-clause-says : goal.returns-clause-says
returns-clause-says g c = c.in_ok-lone.ensures.says
