use Rattle.std.proofs.Common.{ap, sym}
use Rattle.serde_json.proofs.OnLiterals.{serde_json_on_literals}
use Rattle.casa_wire.specs.LineTexts.{fixed_text}
use Rattle.casa_wire.proofs.reply_values.fault_text.Goals as goal

pub returns-in-NotJson : goal.returns-in-NotJson
unfolding serde_json_on_literals
returns-in-NotJson c = sym (ap fixed_text c.in-NotJson.is)

pub returns-in-NoCommand : goal.returns-in-NoCommand
unfolding serde_json_on_literals
returns-in-NoCommand c = sym (ap fixed_text c.in-NoCommand.is)
