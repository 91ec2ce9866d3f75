use Rattle.std.proofs.Common.{◌∙◌}
use Rattle.casa_flight.specs.State.{row_of}
use Rattle.casa_footprint.specs.Items.{a_row}
use Rattle.casa_view.proofs.Reading.{row-is}
use Rattle.casa_live.proofs.all_seen.AllSeenShownRows.row.Goals as goal

pub returns : goal.returns
returns g c m all =
    let key = c.args.key.now in
    c.row.ensures ∙ row-is g.V.Version.item_of c.args.self.now.view.now key (row_of m key) (all (a_row key))
