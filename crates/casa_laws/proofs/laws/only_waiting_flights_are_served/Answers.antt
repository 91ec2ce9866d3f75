use Rattle.casa_laws.proofs.IssuedTimes.{opened, extended, ticked}
use Rattle.casa_laws.proofs.laws.only_waiting_flights_are_served.Goals as goal

pub returns-clause-opened : goal.returns-clause-opened
returns-clause-opened c = opened

pub returns-clause-extended : goal.returns-clause-extended
returns-clause-extended c = extended

pub returns-clause-ticked : goal.returns-clause-ticked
returns-clause-ticked c = ticked
