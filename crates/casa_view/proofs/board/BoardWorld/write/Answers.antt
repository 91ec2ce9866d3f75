use Rattle.casa_plan_spec.specs.Sight.{says}
use Rattle.casa_item.specs.Versions.{list_at}
use Rattle.casa_view.specs.Board.{versions}
use Rattle.casa_view.proofs.Orderly.{orderly_written}
use Rattle.casa_view.proofs.board.BoardWorld.write.Goals as goal

pub invariant_of-self : goal.invariant_of-self
invariant_of-self g c =
    let version = g.K.Version.Version in
    let before = versions c.args.self.now.items in
    record {
      orderly = orderly_written version.item_of version.stamp_of (says (list_at version.item_of before) c.args.change) c.args.position
          before (versions c.write.new.items) c.write.result c.write.ensures.written c.write.ensures.same c.args.self.now.orderly;
    }
