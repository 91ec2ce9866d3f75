use Rattle.serde_json.proofs.OnLiterals.{serde_json_on_literals}
use Rattle.casa_json.proofs.flights.CrossingJson.push_json.Goals as goal

pub returns : goal.returns
unfolding serde_json_on_literals
returns c = rw (c.secs.ensures.value, c.as_bytes.ensures) at c.in_ok-push_parts.ensures
