use Rattle.casa_script.proofs.Readings.{call_read, line_read, line_seen}
use Rattle.casa_script.proofs.laws.lines_are_read_again.Goals as goal

pub returns-clause-line : goal.returns-clause-line
returns-clause-line c = λ label call fits is. line_read label fits call is

pub returns-clause-command : goal.returns-clause-command
returns-clause-command c = λ label call fits is. call_read label fits call is

pub returns-clause-characters : goal.returns-clause-characters
returns-clause-characters c = λ label call fits is. line_seen label fits call is
