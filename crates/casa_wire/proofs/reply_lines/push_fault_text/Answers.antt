use Rattle.serde_json.proofs.OnLiterals.{serde_json_on_literals}
use Rattle.casa_wire.proofs.reply_lines.push_fault_text.Goals as goal

pub returns-in-BadField : goal.returns-in-BadField
unfolding serde_json_on_literals
returns-in-BadField c = rw c.in-BadField.is (rw (c.as_bytes-in-BadField.ensures.value, c.name.ensures) at c.push_parts.ensures)
