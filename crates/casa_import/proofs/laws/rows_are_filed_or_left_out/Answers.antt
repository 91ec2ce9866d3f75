use Rattle.casa_import.proofs.Counted.{all, keys}
use Rattle.casa_import.proofs.laws.rows_are_filed_or_left_out.Goals as goal

pub returns-clause-all : goal.returns-clause-all
returns-clause-all c = all

pub returns-clause-keys : goal.returns-clause-keys
returns-clause-keys c = keys
