use Rattle.std.proofs.Common.{sym, ap, ◌∙◌}
use Rattle.std.specs.Option.{option_copied}
use Rattle.casa_item.specs.Versions.{row_of}
use Rattle.casa_table.specs.Flights.{row_named}
use Rattle.casa_table.proofs.LaidFound.{row_under}
use Rattle.casa_table.proofs.asking.Shared+OfFlight+V+FlightIndex.row.Goals as goal

pub returns-in_err-get : goal.returns-in_err-get
returns-in_err-get g c =
    let item_of = g.V.Version.item_of in
    ap option_copied c.from_residual.ensures
    ∙ sym (row_under item_of c.args.key.now c.args.self.now c.in_err-get.ensures.ordered ∙ ap (row_named item_of) (sym c.in_err-get.ensures.value))

pub returns : goal.returns
returns g c =
    let item_of = g.V.Version.item_of in
    c.row_in.ensures ∙ ap row_of c.item.ensures
    ∙ sym (row_under item_of c.args.key.now c.args.self.now c.in_ok-get.ensures.ordered ∙ ap (row_named item_of) (sym c.in_ok-get.ensures.value))
