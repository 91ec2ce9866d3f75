use Rattle.std.proofs.Common.{refl}
use Rattle.serde_json.proofs.OnLiterals.{serde_json_on_literals}
use Rattle.casa_wire.proofs.reply_lines.kind_text.Goals as goal

pub returns-in-Pre : goal.returns-in-Pre
unfolding serde_json_on_literals
returns-in-Pre c = rw c.in-Pre.is refl

pub returns-in-Issued : goal.returns-in-Issued
unfolding serde_json_on_literals
returns-in-Issued c = rw c.in-Issued.is refl

pub returns-in-Forced : goal.returns-in-Forced
unfolding serde_json_on_literals
returns-in-Forced c = rw c.in-Forced.is refl
