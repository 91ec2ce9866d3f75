use Rattle.serde_json.proofs.OnLiterals.{serde_json_on_literals}
use Rattle.casa_wire.proofs.reply_lines.push_refusal.Goals as goal

pub returns : goal.returns
unfolding serde_json_on_literals
returns c = rw (c.code.ensures, c.as_bytes.ensures.value, c.name.ensures) at c.push_parts.ensures
