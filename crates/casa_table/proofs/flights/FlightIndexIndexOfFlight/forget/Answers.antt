use Rattle.std.proofs.Common.{sym, ap, ◌∙◌}
use Rattle.casa_table.specs.Flights.{row_where, row_named}
use Rattle.casa_table.proofs.flights.FlightIndexIndexOfFlight.forget.Goals as goal

pub returns-in-Some : goal.returns-in-Some
returns-in-Some g c = λ at there h.
    c.take_out.ensures (row_where g.V.Version.item_of at)
    (ap (row_named g.V.Version.item_of) there ∙ sym c.row_named.ensures) h
