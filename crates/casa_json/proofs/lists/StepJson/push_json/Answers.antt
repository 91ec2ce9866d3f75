use Rattle.serde_json.proofs.OnLiterals.{serde_json_on_literals}
use Rattle.casa_json.proofs.lists.StepJson.push_json.Goals as goal

pub returns : goal.returns
unfolding serde_json_on_literals
returns c = rw (c.secs.ensures.value, c.moment_or_null.ensures) at c.in_ok-push_parts.ensures
