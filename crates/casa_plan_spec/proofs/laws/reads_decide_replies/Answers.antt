use Rattle.casa_plan_spec.proofs.Decided.{reply_decided}
use Rattle.casa_plan_spec.proofs.laws.reads_decide_replies.Goals as goal

pub returns : goal.returns
returns c = reply_decided
