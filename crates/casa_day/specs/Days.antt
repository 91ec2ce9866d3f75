-- to believe: what becomes of a day, whenever it is cut short
use Rattle.std.specs.Prelude.{◌≡◌, ℕ, ◌≤◌, List, ◌++◌, length, Result, Ok, Err, OnOk, IsErrOf}
use Rattle.casa_history.specs.declared.entry.Entry.{Entry}
use Rattle.casa_commit.specs.declared.world.World.{Ghosts as WorldOf}
use Rattle.casa_commit.specs.Rooms.{entries_of, open_desks}
use Rattle.casa_tape.specs.declared.tape.Tape.{Ghosts as TapeOf}
use Rattle.casa_tape.specs.Lines.{AreLines, StandsAs, journal_of, whole_lines}
use Rattle.casa_tape.specs.Journals.{IsSettled, LeavesOnly}
use Rattle.casa_day.specs.declared.script.Script.{Ghosts as ScriptOf}
use Rattle.casa_day.specs.declared.day.Day.{Day}
use Rattle.casa_day.specs.declared.event.DayFault.{DayFault}
use Rattle.casa_day.specs.declared.event.DayFault.TheVariants.{NotWritten}
use Rattle.casa_day.specs.Scripts.{Say}
use Rattle.casa_day.specs.declared.event.Event.{Event}
use Rattle.casa_day.specs.Courses.{Happened, course_of}
use Rattle.casa_day.specs.Journals.{Grows, IsBegun, IsRunning, IsSafe, Keeps}

module _ {S W C V G R D : Type 0} {world : WorldOf W C V G R} where
  -- a day that is safe, and can go on
  abbrev pub IsRunningDay : ScriptOf S C R → TapeOf D → Day W S D C V G R world → Type 0
  IsRunningDay script T day = IsRunning script T (entries_of day.room) day.journal

  -- A day went on, with this result. However that was, nothing that was told is lost, history and what was told have more
  -- behind them, no less is journaled, and the same desks are open. A crash at any moment of it left a file that keeps what was
  -- journaled before. Where it ended well, the day can go on.
  pub record WentOn {A : Type 0} (script : ScriptOf S C R) (T : TapeOf D) (day day' : Day W S D C V G R world) (result : Result A DayFault) : Type 0 where
    pub safe : IsSafe script T (entries_of day'.room) day'.journal
    pub history : Grows (entries_of day.room) (entries_of day'.room)
    pub told : Grows day.journal.told.items day'.journal.told.items
    pub journaled : day.journal.journaled ≤ day'.journal.journaled
    pub any_moment : LeavesOnly T day.journal.tape day'.journal.tape (Keeps script (entries_of day'.room) day.journal.journaled)
    pub desks : open_desks day'.room ≡ open_desks day.room
    pub running : OnOk result (IsRunningDay script T day')
    -- `NotWritten` is told only of a tape that has failed
    pub cause : IsErrOf result NotWritten → T.has_failed day'.journal.tape

  -- a day has passed on a file that was found: it was opened on its lines, and these events were asked for
  pub record HasPassed {A : Type 0} (script : ScriptOf S C R) (T : TapeOf D) (tape : D) (found : List ℕ) (events : List (Event C)) (result : Result A DayFault) (day : Day W S D C V G R world) : Type 0 where
    pub opened : Day W S D C V G R world
    pub said : Say script 1 (whole_lines found) (entries_of opened.room)
    pub settled : IsSettled T opened.journal.tape (whole_lines found)
    pub begun : IsBegun opened.journal.tape (length (entries_of opened.room)) opened.journal
    -- a crash at any moment of the opening leaves a file that stands for the same lines as one that a crash before might leave
    pub any_moment : LeavesOnly T tape opened.journal.tape (StandsAs (T.may_leave tape))
    pub went_on : WentOn script T opened day result
    pub happened : Happened (open_desks opened.room) events result (course_of opened) (course_of day)

  -- the tape of a day that was opened, or the one that was handed back
  abbrev pub tape_left : {F : Type 0} → Result (Day W S D C V G R world) (F × D) → D
  tape_left (Ok day) = day.journal.tape
  tape_left (Err e) = e.1

-- inner: a journal was read and mended: its lines, those of the file that was found, say these entries, so many
pub record IsRestored {S C R D : Type 0} (script : ScriptOf S C R) (T : TapeOf D) (old new : D) (history : List (Entry C R)) (count : ℕ) : Type 0 where
  pub lines : List (List ℕ)
  pub found : (xs : List ℕ) → T.holds old xs → lines ≡ whole_lines xs
  pub settled : IsSettled T new lines
  pub said : Say script 1 lines history
  pub all : count ≡ length history

-- inner: the first of these lines were answered again, and the rest is the text of the others
pub record IsReplayed {S C R : Type 0} (script : ScriptOf S C R) (lines : List (List ℕ)) (rest : List ℕ) (history : List (Entry C R)) (position : ℕ) : Type 0 where
  pub done : List (List ℕ)
  pub left : List (List ℕ)
  pub split : lines ≡ done ++ left
  pub are_left : AreLines left
  pub rest_is : rest ≡ journal_of left
  pub said : Say script 1 done history
  pub count : position ≡ length done
