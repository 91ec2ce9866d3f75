use Rattle.std.proofs.Common.{◌≡◌, Some, sym, ap, ◌∙◌}
use Rattle.std.specs.Option.{option_copied}
use Rattle.casa_item.specs.Versions.{row_of}
use Rattle.casa_table.specs.Flights.{row_where, row_named}
use Rattle.casa_table.proofs.NotedFlights.{noted_indexed}
use Rattle.casa_table.proofs.flights.FlightIndexIndexOfFlight.note.Goals as goal

pub returns-in_err-add-clause-stays : goal.returns-in_err-add-clause-stays
returns-in_err-add-clause-stays g c = λ at h. c.add.ensures.stays (row_where g.V.Version.item_of at) h

pub returns-in_ok-add-clause-stays : goal.returns-in_ok-add-clause-stays
returns-in_ok-add-clause-stays g c = λ at h. c.add.ensures.stays (row_where g.V.Version.item_of at) h

pub returns-in_ok-add-clause-noted : goal.returns-in_ok-add-clause-noted
returns-in_ok-add-clause-noted g c = λ at there h.
    let is : row_of (g.V.Version.item_of c.args.value.now) ≡ Some c.in-Some.row.now =
    ap row_of (sym c.item.ensures) ∙ sym c.row_in.ensures ∙ ap option_copied c.in-Some.is in
    noted_indexed g.V.Version.item_of at _ _ c.args.name.now c.args.value.now c.in-Some.row.now is
    (c.in_ok-add.ensures.added (row_where g.V.Version.item_of at)
    (ap (row_named g.V.Version.item_of) there ∙ sym c.row_named.ensures) h)
