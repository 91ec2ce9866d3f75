use Rattle.casa_laws.proofs.Crossings.{subject_where}
use Rattle.casa_laws.proofs.laws.subject_is_by_the_crossing.Goals as goal

pub returns : goal.returns
returns c = subject_where
