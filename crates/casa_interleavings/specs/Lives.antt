-- to believe: what a life leaves, whenever it is cut short
use Rattle.std.specs.Prelude.{◌≡◌, ℕ, ◌<◌, ◌≤◌, Option, List, length, take, Result, OnOk, OnErr, IfOk, IsErrOf}
use Rattle.casa_flight.specs.declared.call.Call.{Call}
use Rattle.casa_flight.specs.declared.reply.Reply.{Reply}
use Rattle.casa_history.specs.declared.entry.Entry.{Entry}
use Rattle.casa_tape.specs.declared.tape.Tape.{Ghosts as TapeOf}
use Rattle.casa_commit.specs.declared.world.World.{Ghosts as WorldOf}
use Rattle.casa_tape.specs.Lines.{StandsAs, whole_lines}
use Rattle.casa_tape.specs.Journals.{IsSettled, LeavesOnly}
use Rattle.casa_day.specs.declared.script.Script.{Ghosts as ScriptOf}
use Rattle.casa_day.specs.declared.event.DayFault.{DayFault}
use Rattle.casa_day.specs.declared.event.DayFault.TheVariants.{NotWritten}
use Rattle.casa_day.specs.declared.journal.Journal.{Journal}
use Rattle.casa_day.specs.Scripts.{Say, calls_in}
use Rattle.casa_day.specs.Journals.{Grows, IsBegun, IsRunning, IsSafe, Keeps, WasOpen, told_by}
use Rattle.casa_day.specs.Lives.{IsLived}
use Rattle.casa_interleavings.specs.declared.event.Outcome.{Outcome}
use Rattle.casa_interleavings.specs.Scenes.{IsRun}
use Rattle.casa_interleavings.specs.Board.{sequential_reply, HasSameStamps}
use Rattle.casa_interleavings.specs.Runs.{Played, run_events, run_history, run_outcomes}
use Rattle.casa_interleavings.specs.declared.day_event.DayEvent.{DayEvent}
use Rattle.casa_interleavings.specs.Deeds.{again}
use Rattle.casa_interleavings.specs.Courses.{Stage, GoOn}

-- A day stood at this stage, with this history; these events were asked for; it came to this end and left this journal.
pub record HasGoneOn {B S D : Type 0} (script : ScriptOf S Call Reply) (T : TapeOf D) (before : List (Entry Call Reply)) (stage : Stage D)
    (events : List (DayEvent Call)) (end : Result (Played B Call Reply) DayFault) (journal : Journal D) : Type 0 where
  -- the first so many of the events happened, and all of them where it ended well, and led to this stage
  pub happened : ℕ
  pub within : happened ≤ length events
  pub all : OnOk end (happened ≡ length events)
  pub failed : OnErr end (happened < length events)
  pub last : Stage D
  pub goes_on : GoOn script T (take happened events) stage last
  -- its deeds are those of a run, whose history begins with the one before
  pub history : List (Entry Call Reply)
  pub outcomes : ℕ → Option Outcome
  pub is_run : IsRun sequential_reply HasSameStamps last.deeds history outcomes
  pub begins : Grows before history
  pub same : IfOk end (λ run. (run_events run ≡ last.deeds) × (run_history run ≡ history) × ((w : ℕ) → run_outcomes run w ≡ outcomes w) × (journal ≡ last.journal))
  -- where the next event failed, no more replies were told, and no more was journaled
  pub told : journal.told.items ≡ last.journal.told.items
  pub journaled : journal.journaled ≡ last.journal.journaled
  -- a crash at any moment of it left a file that keeps what was journaled at the beginning
  pub any_moment : LeavesOnly T stage.journal.tape journal.tape (Keeps script history stage.journal.journaled)
  -- a crash at any moment since a reply was told leaves a file that has its call, and all before it
  pub safe : IsSafe script T history journal
  -- `NotWritten` is told only of a tape that has failed
  pub cause : IsErrOf end NotWritten → T.has_failed journal.tape

-- a life on a file that was found: its lines say entries, whose calls are answered again, and then the day goes on
pub record HasLived {B S D W V G : Type 0} (script : ScriptOf S Call Reply) (T : TapeOf D) (world : WorldOf W Call V G Reply) (tape : D) (found : List ℕ)
    (events : List (DayEvent Call)) (end : Result (Played B Call Reply) DayFault) (journal : Journal D) : Type 0 where
  pub first : List (Entry Call Reply)
  pub said : Say script 1 (whole_lines found) first
  pub opening : Journal D
  pub settled : IsSettled T opening.tape (whole_lines found)
  pub begun : IsBegun opening.tape (length first) opening
  pub running : IsRunning script T first opening
  -- a crash at any moment of the opening leaves a file that stands for the same lines as one that a crash before might leave
  pub any_moment : LeavesOnly T tape opening.tape (StandsAs (T.may_leave tape))
  pub went_on : HasGoneOn script T first (record { deeds = again (calls_in first); journal = opening }) events end journal
  -- whatever a crash left, in the midst of a call or between two, once the journal was open: it was left by a life of those that
  -- follow one another, in which just that was told that was told by then
  pub cut_short : (moment : ℕ) (left : List ℕ) → WasOpen T journal moment → T.left_since journal.tape moment left
      → IsLived script world found (record { history = went_on.history; at_opening = length first; told = told_by T journal moment }) left
