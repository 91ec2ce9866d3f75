use Rattle.std.proofs.Common.{refl}
use Rattle.serde_json.proofs.OnLiterals.{serde_json_on_literals}
use Rattle.casa_wire.proofs.reply_values.too_long_line.Goals as goal

pub returns : goal.returns
unfolding serde_json_on_literals
returns c = refl
