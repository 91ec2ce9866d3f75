use Rattle.std.proofs.Common.{true, ap, Some}
use Rattle.casa_view.specs.declared.view.Part.TheVariants.{Named}
use Rattle.casa_view.specs.Board.{versions}
use Rattle.casa_view.proofs.Taken.{view_taken}
use Rattle.casa_view.proofs.items.Items.view_of_plans.Goals as goal

pub returns : goal.returns
returns g c = λ t u rows lists.
    view_taken (versions c.args.self.now)
    (record {
      clock = c.in_ok-version_if.field-0;
      catalogue = Some c.args.catalogue;
      rows = Named c.args.rows;
      lists = Named c.args.lists;
    })
    c.args.clock true c.in_ok-version_if.ensures (ap Some c.requires) t u rows lists
