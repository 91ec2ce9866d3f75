use Rattle.casa_traffic.proofs.Taken.{calls_are_taken}
use Rattle.casa_traffic.proofs.laws.calls_are_taken.Goals as goal

pub returns : goal.returns
returns c = calls_are_taken
