-- inner contracts: connections and seats that a server has begun with
use Rattle.std.specs.declared.thread.PromisedHandle.{PromisedHandle}
use Rattle.casa_server.specs.declared.begun.Begun.{Begun}
use Rattle.casa_server.specs.declared.begun.Begun.TheVariants.{Refused, Session}
use Rattle.casa_server.specs.declared.seat.SeatOf.{SeatOf}

-- the connection with which it was begun
abbrev pub connection_of : {I O W L V D : Type 0} → Begun I O W L V D → I × O
connection_of (Refused connection) = connection.value
connection_of (Session thread) = thread.promise.connection.value

-- the source of a seat's connections
abbrev pub source_of : {S W L T : Type 0} → PromisedHandle T (SeatOf S W L) → S
source_of seat = seat.promise.source.value
