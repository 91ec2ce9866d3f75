use Rattle.casa_view.specs.Board.{versions}
use Rattle.casa_view.proofs.Held.{same_shows}
use Rattle.casa_view.proofs.board.BoardWorld.same.Goals as goal

pub returns-clause-shown : goal.returns-clause-shown
returns-clause-shown g c = λ same well.
    let version = g.K.Version.Version in
    let board = c.args.self.now in
    same_shows version.item_of version.stamp_of (versions board.items) c.args.view.now board.orderly.in_order.rows well
    (c.same_items.ensures.shows same)
