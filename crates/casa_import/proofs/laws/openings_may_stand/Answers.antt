use Rattle.casa_import.proofs.Apart.{all_may_open}
use Rattle.casa_import.proofs.laws.openings_may_stand.Goals as goal

pub returns : goal.returns
returns c = all_may_open
