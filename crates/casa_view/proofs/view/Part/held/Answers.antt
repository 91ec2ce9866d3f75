use Rattle.std.proofs.Common.{sym, ap, ◌∙◌}
use Rattle.casa_table.specs.Flights.{rows_named, rows_of}
use Rattle.casa_view.specs.Shown.{rows_in}
use Rattle.casa_view.proofs.RowsOf.{rows-overlaid}
use Rattle.casa_view.proofs.view.Part.held.Goals as goal

pub returns-in-All : goal.returns-in-All
returns-in-All g c =
    ap (rows_named g.V.Version.item_of) c.over.ensures
    ∙ rows-overlaid g.V.Version.item_of c.layers.result.1.now.entries c.layers.result.0.now.entries
    c.layers.ensures.ordered.0
    ∙ ap (rows_of g.V.Version.item_of) c.layers.ensures.laid
    ∙ ap (rows_in g.V.Version.item_of) (sym c.in-All.is)
