use Rattle.casa_lines.proofs.Readings.{call_read, call_seen, apart}
use Rattle.casa_lines.proofs.laws.calls_are_read_again.Goals as goal

pub returns-clause-call : goal.returns-clause-call
returns-clause-call c = λ call is. call_read call is

pub returns-clause-characters : goal.returns-clause-characters
returns-clause-characters c = λ call is. call_seen call is

pub returns-clause-apart : goal.returns-clause-apart
returns-clause-apart c = λ call another is are same. apart call another is are same
