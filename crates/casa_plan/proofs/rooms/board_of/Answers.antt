use Rattle.std.proofs.Common.{◌≡◌, ap, subst}
use Rattle.casa_history.specs.Entries.{entries}
use Rattle.casa_commit.specs.Rooms.{entries_of}
use Rattle.casa_plan.specs.Rooms.{IsSequential}
use Rattle.casa_plan.proofs.Replayed.{sequential, stands}
use Rattle.casa_plan.proofs.rooms.board_of.Goals as goal

pub returns-clause-sequential : goal.returns-clause-sequential
returns-clause-sequential g c =
    let same : entries c.history-history.result.now ≡ entries_of c.args.room.now = ap entries c.history-history.ensures.same in
    subst IsSequential same (sequential (entries c.history-history.result.now) c.history-history.ensures.legal)

pub returns-clause-stands : goal.returns-clause-stands
returns-clause-stands g c =
    stands (entries_of c.args.room.now) _ c.world.ensures.replay c.world.ensures.good
