use Rattle.serde_json.proofs.OnLiterals.{serde_json_on_literals}
use Rattle.casa_wire.proofs.reply_lines.push_slot.Goals as goal

pub returns : goal.returns
unfolding serde_json_on_literals
returns c = rw (c.as_bytes.ensures, c.as_bytes-2.ensures.value, c.as_bytes-3.ensures) at c.push_parts.ensures
