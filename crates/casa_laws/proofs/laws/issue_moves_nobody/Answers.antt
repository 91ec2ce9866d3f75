use Rattle.casa_laws.proofs.MovesNobody.{place_issued, places_issued}
use Rattle.casa_laws.proofs.laws.issue_moves_nobody.Goals as goal

pub returns-clause-others : goal.returns-clause-others
returns-clause-others c = place_issued

pub returns-clause-places : goal.returns-clause-places
returns-clause-places c = places_issued
