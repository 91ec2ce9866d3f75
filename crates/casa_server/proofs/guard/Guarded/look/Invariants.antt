use Rattle.std.proofs.Common.{length}
use Rattle.std.specs.Io.KnownBytes.{Keeps}
use Rattle.casa_server.specs.Looks.{looks_left}
use Rattle.casa_server.specs.Guards.{guarded_left, IsTurned}
use Rattle.casa_server.proofs.guard.Guarded.look.Given as goal

-- what is left is what was left, and a request stays one
abbrev pub invariant-looking : goal.invariant-looking
invariant-looking g l =
    Keeps (guarded_left g.R.Read.remaining l.initial.self) (guarded_left g.R.Read.remaining l.self)
    × (IsTurned g.R.Read.remaining l.initial.self → IsTurned g.R.Read.remaining l.self)

abbrev pub decreases-looking : goal.decreases-looking
decreases-looking g l = looks_left l.self.stage (length l.self.held.items)
