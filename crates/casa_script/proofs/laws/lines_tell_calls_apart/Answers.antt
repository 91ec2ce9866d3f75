use Rattle.casa_script.proofs.Readings.{apart}
use Rattle.casa_script.proofs.laws.lines_tell_calls_apart.Goals as goal

pub returns : goal.returns
returns c = λ label other call another fits is others are same. apart label other call another fits is others are same
