use Rattle.std.proofs.Common.{sym, subst}
use Rattle.casa_plan_spec.specs.Sight.{says}
use Rattle.casa_view.specs.Board.{versions, next_versions}
use Rattle.casa_item.specs.Versions.{IsOrderly, list_at}
use Rattle.casa_view.specs.Change.{IsApplied}
use Rattle.casa_view.proofs.Orderly.{orderly_kept}
use Rattle.casa_view.proofs.board.BoardWorld.apply.Goals as goal

pub invariant_of-self : goal.invariant_of-self
invariant_of-self g c =
    let version = g.K.Version.Version in
    let items = c.args.self.now.items in
    record {
      orderly = subst (IsOrderly version.item_of) (sym c.adopt.ensures)
          (orderly_kept version.item_of version.stamp_of (says (list_at version.item_of (versions items)) c.args._change) c.args._position (versions items)
          (next_versions items)
          c.requires c.args.self.now.orderly);
    }

pub returns : goal.returns
returns g c =
    let version = g.K.Version.Version in
    subst (IsApplied version.item_of version.stamp_of (says (list_at version.item_of (versions c.args.self.now.items)) c.args._change) c.args._position (versions c.args.self.now.items)) (sym c.adopt.ensures) c.requires
