use Rattle.casa_import.proofs.Entered.{apart, places, times}
use Rattle.casa_import.proofs.laws.locations_stand_once.Goals as goal

pub returns-clause-places : goal.returns-clause-places
returns-clause-places c = places

pub returns-clause-times : goal.returns-clause-times
returns-clause-times c = times

pub returns-clause-apart : goal.returns-clause-apart
returns-clause-apart c = apart
