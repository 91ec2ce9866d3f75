use Rattle.std.proofs.Common.{◌≡◌, ◌≤◌, List, [], length}
use Rattle.casa_history.specs.Entries.{receipts}
use Rattle.casa_engine.specs.Passes.{pass_of}
use Rattle.casa_server.specs.Seats.{Visit, connections_in, AnswersInTurn}
use Rattle.casa_server.specs.Sources.{Gives}
use Rattle.casa_server.proofs.Seats.{count_faulted}
use Rattle.casa_server.proofs.seat.sit.Given as goal

-- the connections that were answered
abbrev pub invariant-sitting : goal.invariant-sitting
invariant-sitting g l =
    (visits : List (Visit g.row.S-Reader.Denot g.row.S-Writer.Denot))
    × Gives (g.S.Connections.coming l.fn.seat.source) (g.S.Connections.coming l.source) (connections_in visits)
    × AnswersInTurn g.S.Reader.Read.remaining g.S.Writer.Write.contents [] (receipts (pass_of l.pass)) visits
    × (l.sat.sessions ≡ length visits) × (l.sat.faulted ≡ count_faulted visits)
    × (l.sat.sessions ≡ l.counter) × (l.sat.faulted ≤ l.sat.sessions)
