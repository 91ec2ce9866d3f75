use Rattle.std.proofs.Common.{◌≡◌, ◌≤◌, List, ℕ, length}
use Rattle.std.specs.Io.KnownBytes.{Consumes}
use Rattle.casa_server.specs.Ticks.{Ticks}
use Rattle.casa_server.proofs.day_clock.keep_time.Given as goal

abbrev pub invariant-turns : goal.invariant-turns
invariant-turns g l =
    (moments : List ℕ) × (length moments ≡ l.counter) × (l.accepted ≤ l.counter)
    × Consumes (g.C.DayClock.coming l.fn.clock) (g.C.DayClock.coming l.clock) moments
    × Ticks (g.D.Desk.answered l.fn.desk) (g.D.Desk.answered l.desk) moments l.accepted
