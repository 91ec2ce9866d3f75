use Rattle.std.proofs.Common.{sym}
use Rattle.casa_table.proofs.Due.{idle_goes}
use Rattle.casa_table.proofs.flights.take_departure.Goals as goal

pub returns-then-not-needs_departure : goal.returns-then-not-needs_departure
returns-then-not-needs_departure c = λ at there.
    idle_goes c.args.key c.args.eobt _ at _ _ there (sym c.if-not-needs_departure.ensures) c.remove.ensures.updates.2
