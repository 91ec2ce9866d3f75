use Rattle.std.proofs.Common.{[], sym, append-nil, ◌∙◌, rules}
use Rattle.casa_commit.specs.Rooms.{entries_of}
use Rattle.casa_interleavings.proofs.Passes.{admits_own, admits_other, admits_still}
use Rattle.casa_interleavings.proofs.hand_in.hand_in.Goals as goal

pub returns-in-Ok-clause-pass : goal.returns-in-Ok-clause-pass
returns-in-Ok-clause-pass g c = (search rules, admits_own c.in-Ok.ensures.accepted)

pub returns-in-Ok-clause-others : goal.returns-in-Ok-clause-others
returns-in-Ok-clause-others g c = admits_other c.in-Ok.ensures.accepted

pub returns-in-Err-Stale-default-clause-others : goal.returns-in-Err-Stale-default-clause-others
returns-in-Err-Stale-default-clause-others g c p other = admits_still c.in-Err-Stale-default.ensures.refused p

pub returns-in-Err-Stale-default-clause-grows : goal.returns-in-Err-Stale-default-clause-grows
returns-in-Err-Stale-default-clause-grows g c =
    ([], c.in-Err-Stale-default.ensures.refused.same_room.history ∙ sym (append-nil (entries_of c.args.room.now)))
