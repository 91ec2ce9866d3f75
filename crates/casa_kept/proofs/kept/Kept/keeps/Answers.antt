use Rattle.casa_kept.proofs.Standing.{kept_for}
use Rattle.casa_kept.proofs.kept.Kept.keeps.Goals as goal

pub returns-clause-kept : goal.returns-clause-kept
returns-clause-kept g c =
    rw (← c.self.view_is, ← c.synced.view_is)
    (kept_for g.S.Script g.T.Tape c.self.inside.front c.self.inside.tape c.self.inside.notes (record { front = c.synced.inside.front; notes = c.synced.inside.notes })
    c.self.invariant.1.stands c.knows.ensures.known c.synced.invariant c.agrees.ensures)
