use Rattle.std.proofs.Common.{inr}
use Rattle.casa_app.proofs.Compared.{ends_at_base, says_at_base}
use Rattle.casa_app.proofs.comparing.compare.Goals as goal

pub returns-in_err-base-clause-ends : goal.returns-in_err-base-clause-ends
returns-in_err-base-clause-ends g c =
    ends_at_base c.args.asked.day c.args.asked.format c.from_residual.result c.in_err-base.field-0.0 _ _ _ _ c.from_residual.ensures.1 c.in_err-base.ensures.err

pub returns-in_err-base-clause-says : goal.returns-in_err-base-clause-says
returns-in_err-base-clause-says g c =
    says_at_base c.args.strict _ _ c.from_residual.result c.in_err-base.field-0.0 _ _ _ _ _ _ c.from_residual.ensures.1 c.in_err-base.ensures.says

pub returns-clause-ends : goal.returns-clause-ends
returns-clause-ends g c = inr (c.in_ok-base.base, c.in_ok-base.ensures.whole, c.printed_below.ensures.ends)

pub returns-clause-says : goal.returns-clause-says
returns-clause-says g c =
    let (said, all, of_base) = c.in_ok-base.ensures.says in
    inr (said, _, all, of_base, c.printed_below.ensures.says)
