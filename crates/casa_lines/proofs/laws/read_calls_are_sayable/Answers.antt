use Rattle.casa_lines.proofs.Sayables.{read_is_sayable}
use Rattle.casa_lines.proofs.laws.read_calls_are_sayable.Goals as goal

pub returns : goal.returns
returns c = λ line call is. read_is_sayable line call is
