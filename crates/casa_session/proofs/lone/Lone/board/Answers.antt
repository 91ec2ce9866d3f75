use Rattle.casa_commit.specs.Rooms.{entries_of}
use Rattle.casa_session.proofs.Shown.{catalogue-shown, list-shown, state-shown}
use Rattle.casa_session.proofs.lone.Lone.board.Goals as goal

pub returns-clause-state : goal.returns-clause-state
returns-clause-state c =
    state-shown (entries_of c.self.inside.room) c.args.self.now c.self.view_is _ c.world.ensures.replay

pub returns-clause-catalogue : goal.returns-clause-catalogue
returns-clause-catalogue c =
    catalogue-shown (entries_of c.self.inside.room) c.args.self.now c.self.view_is _ c.world.ensures.replay c.world.ensures.good

pub returns-clause-lists : goal.returns-clause-lists
returns-clause-lists c =
    list-shown (entries_of c.self.inside.room) c.args.self.now c.self.view_is _ c.world.ensures.replay c.world.ensures.good
