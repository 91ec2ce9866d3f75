use Rattle.std.proofs.Common.{◌∙◌}
use Rattle.casa_flight.specs.Listing.{list_of}
use Rattle.casa_footprint.specs.Items.{a_list}
use Rattle.casa_view.proofs.Reading.{list-is}
use Rattle.casa_live.proofs.all_seen.AllSeenShown.list.Goals as goal

pub returns : goal.returns
returns g c m all =
    let id = c.args.id.now in
    c.list.ensures ∙ list-is g.V.Version.item_of c.args.self.now.view.now id (list_of m id) (all (a_list id))
