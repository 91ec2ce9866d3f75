-- to believe: what events do to a journal and to what is told
use Rattle.std.specs.Prelude.{◌≡◌, ℕ, nat_lt, nat_le, ◌&&◌, if◌then◌else◌, Option, List, [], ◌∷◌, ◌++◌, length}
use Rattle.std.specs.List.{FoldsTo}
use Rattle.casa_flight.specs.declared.call.Call.{Call}
use Rattle.casa_flight.specs.declared.reply.Reply.{Reply}
use Rattle.casa_history.specs.declared.entry.Entry.{Entry}
use Rattle.casa_tape.specs.declared.tape.Tape.{Ghosts as TapeOf}
use Rattle.casa_day.specs.declared.script.Script.{Ghosts as ScriptOf}
use Rattle.casa_day.specs.declared.journal.Journal.{Journal}
use Rattle.casa_tape.specs.Journals.{LeavesOnly}
use Rattle.casa_day.specs.Journals.{IsRunning, IsToldNow, Keeps}
use Rattle.casa_interleavings.specs.declared.event.Event.{Event}
use Rattle.casa_interleavings.specs.declared.event.Outcome.{Outcome}
use Rattle.casa_interleavings.specs.Scenes.{IsRun}
use Rattle.casa_interleavings.specs.Board.{sequential_reply, HasSameStamps}
use Rattle.casa_interleavings.specs.declared.day_event.DayEvent.{DayEvent}
use Rattle.casa_interleavings.specs.declared.day_event.DayEvent.TheVariants.{Do, Flush, Tell}

-- how far a day of many workers is: what they have done, and the journal as it is then
pub record Stage (D : Type 0) : Type 0 where
  pub deeds : List (Event Call)
  pub journal : Journal D

-- the list of this position, where the journal has its call; else none
abbrev pub tellable : {D : Type 0} → Journal D → ℕ → List ℕ
tellable journal position = if nat_lt 0 position && nat_le position journal.journaled then position ∷ [] else []

-- after a flush the journal has the whole history of these deeds, on the disk; what was told is as before; and a crash at any
-- moment of it left a file that keeps what was journaled before
pub record IsFlushed {S D : Type 0} (script : ScriptOf S Call Reply) (T : TapeOf D) (deeds : List (Event Call)) (old new : Journal D) : Type 0 where
  pub history : List (Entry Call Reply)
  pub outcomes : ℕ → Option Outcome
  pub is_run : IsRun sequential_reply HasSameStamps deeds history outcomes
  pub running : IsRunning script T history new
  pub all : new.journaled ≡ length history
  pub told : new.told.items ≡ old.told.items
  pub any_moment : LeavesOnly T old.tape new.tape (Keeps script history old.journaled)

-- a reply is told now, on the tape as it is, where the journal has its call; its tape and its count are as before
pub record IsTold {D : Type 0} (position : ℕ) (old new : Journal D) : Type 0 where
  pub tape : new.tape ≡ old.tape
  pub journaled : new.journaled ≡ old.journaled
  pub now : IsToldNow old new (tellable old position)

module _ {S D : Type 0} (script : ScriptOf S Call Reply) (T : TapeOf D) where
  -- an event leads on: a deed is done; the history of the deeds is journaled; a reply is told
  abbrev pub GoesOn : DayEvent Call → Stage D → Stage D → Type 0
  GoesOn (Do deed) a b = (b.deeds ≡ a.deeds ++ deed ∷ []) × (b.journal ≡ a.journal)
  GoesOn Flush a b = (b.deeds ≡ a.deeds) × IsFlushed script T a.deeds a.journal b.journal
  GoesOn (Tell position) a b = (b.deeds ≡ a.deeds) × IsTold position a.journal b.journal

  -- one event after the other
  abbrev pub GoOn : List (DayEvent Call) → Stage D → Stage D → Type 0
  GoOn events a b = FoldsTo (λ k event l. GoesOn event k l) a events b
