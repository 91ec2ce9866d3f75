use Rattle.std.proofs.Common.{List, [], Option, ap, ◌∙◌, unwrap_or}
use Rattle.casa_filing.specs.declared.regulation.Regulation.{Regulation}
use Rattle.casa_flight.specs.State.{catalogue}
use Rattle.casa_footprint.specs.Items.{the_catalogue}
use Rattle.casa_view.proofs.Reading.{catalogue-is}
use Rattle.casa_live.proofs.all_seen.AllSeenShown.catalogue.Goals as goal

pub returns-in-Some : goal.returns-in-Some
returns-in-Some g c m all =
    c.as_slice.ensures.regulations ∙ ap (λ (rs : Option (List Regulation)). unwrap_or rs []) c.in-Some.ensures
    ∙ catalogue-is g.V.Version.item_of c.args.self.now.view.now (catalogue m) (all the_catalogue)

pub returns-in-None : goal.returns-in-None
returns-in-None g c m all =
    ap (λ (rs : Option (List Regulation)). unwrap_or rs []) c.in-None.ensures
    ∙ catalogue-is g.V.Version.item_of c.args.self.now.view.now (catalogue m) (all the_catalogue)
