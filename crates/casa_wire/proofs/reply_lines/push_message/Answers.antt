use Rattle.serde_json.proofs.OnLiterals.{serde_json_on_literals}
use Rattle.casa_wire.proofs.reply_lines.push_message.Goals as goal

pub returns-in-Slc : goal.returns-in-Slc
unfolding serde_json_on_literals
returns-in-Slc c = rw c.in-Slc.is (rw c.as_bytes.ensures at c.push_parts.ensures)
