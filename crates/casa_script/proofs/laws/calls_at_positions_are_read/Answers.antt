use Rattle.casa_script.proofs.Entries.{call_of_line}
use Rattle.casa_script.proofs.laws.calls_at_positions_are_read.Goals as goal

pub returns : goal.returns
returns c = λ position line call is. call_of_line position line call is
