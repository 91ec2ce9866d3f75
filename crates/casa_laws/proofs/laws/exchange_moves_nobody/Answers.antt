use Rattle.casa_laws.proofs.SwapPlaces.{places_exchanged, swap_places}
use Rattle.casa_laws.proofs.laws.exchange_moves_nobody.Goals as goal

pub returns-clause-places : goal.returns-clause-places
returns-clause-places c = λ l key other eto cto its_eto its_cto. places_exchanged l key other eto its_eto cto its_cto

pub returns-clause-lists : goal.returns-clause-lists
returns-clause-lists c = swap_places
