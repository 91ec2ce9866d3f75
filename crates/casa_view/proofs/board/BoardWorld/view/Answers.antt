use Rattle.casa_view.specs.Board.{versions}
use Rattle.casa_view.proofs.Viewed.{read_view, read_current}
use Rattle.casa_view.proofs.board.BoardWorld.view.Goals as goal

pub returns-clause-reads : goal.returns-clause-reads
returns-clause-reads g c well =
    let version = g.K.Version.Version in
    let board = c.args.self.now in
    read_view version.item_of version.stamp_of (versions board.items) board.orderly.in_order.rows c.args.call.now
    c.in_ok-view.view c.in_ok-view.ensures well

pub returns-clause-current : goal.returns-clause-current
returns-clause-current g c =
    let version = g.K.Version.Version in
    let board = c.args.self.now in
    read_current version.item_of version.stamp_of (versions board.items) board.orderly.in_order.rows version.is_same
    g.met.K.Version.Version.same_itself c.args.call.now c.in_ok-view.view c.in_ok-view.ensures
