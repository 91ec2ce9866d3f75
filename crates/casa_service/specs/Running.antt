-- to believe: what a session over the standard streams comes to where a journal is kept
use Rattle.std.specs.Prelude.{◌≡◌, ℕ, List, Option, Result, Ok, Err, ⊤}
use Rattle.casa_flight.specs.declared.call.Call.{Call}
use Rattle.casa_flight.specs.declared.reply.Reply.{Reply}
use Rattle.casa_history.specs.declared.entry.Entry.{Entry}
use Rattle.casa_history.specs.Entries.{receipts_of}
use Rattle.casa_session.specs.Receipts.{Receipts}
use Rattle.casa_plan.specs.Rooms.{IsSequential}
use Rattle.casa_session.specs.declared.fault.SessionFault.{SessionFault}
use Rattle.casa_session.specs.declared.fault.SessionFault.TheVariants.{WriteFailed}
use Rattle.casa_session.specs.Transcript.{Ends}
use Rattle.casa_service.specs.declared.fault.Trouble.{Trouble}
use Rattle.casa_service.specs.declared.fault.Trouble.TheVariants.{NotWritten}
use Rattle.casa_service.specs.declared.fault.ServiceFault.{ServiceFault}
use Rattle.casa_service.specs.declared.fault.ServiceFault.TheVariants.{BindFailed, Serve, Session, Journal, NoMemory}

-- the input that was to be read and is left, and the output before and now, where they are known
pub record Streams : Type 0 where
  pub input : Option (List ℕ)
  pub input_left : Option (List ℕ)
  pub output : Option (List ℕ)
  pub output_now : Option (List ℕ)

-- a session ended so: the lines of the input were answered by a desk that had some receipts before, and has now those of its
-- entries in a history of one thread
pub record IsAnswered (streams : Streams) (ended : Result ℕ SessionFault) : Type 0 where
  pub history : List (Entry Call Reply)
  pub sequential : IsSequential history
  pub desk : ℕ
  pub before : Receipts
  pub ends : Ends ⊤ ended (record {
    input = streams.input;
    input_left = streams.input_left;
    receipts = before;
    receipts_now = receipts_of desk history;
    output = streams.output;
    output_now = streams.output_now;
  })

-- nothing was read or written
abbrev pub IsUntouched : Streams → Type 0
IsUntouched streams = (streams.input_left ≡ streams.input) × (streams.output_now ≡ streams.output)

-- what is wrong with the journal ended it: a write to it failed, and before that the lines were answered; or it could not be had,
-- and nothing was read or written
abbrev pub HasLost : Streams → Trouble → Type 0
HasLost streams (NotWritten error) = (n : ℕ) × IsAnswered streams (Err (WriteFailed n))
HasLost streams other = IsUntouched streams

-- A session with a journal ended so: the lines were answered; or they were up to a write that failed, of the output or of the
-- journal; or the journal could not be had, or there was no memory for it.
abbrev pub HasRun : Streams → Result ⊤ ServiceFault → Type 0
HasRun streams (Ok x) = (n : ℕ) × IsAnswered streams (Ok n)
HasRun streams (Err (Session fault)) = IsAnswered streams (Err fault)
HasRun streams (Err (Journal fault)) = HasLost streams fault.trouble
HasRun streams (Err NoMemory) = IsUntouched streams
HasRun streams (Err (BindFailed fault)) = ⊥
HasRun streams (Err (Serve fault)) = ⊥
