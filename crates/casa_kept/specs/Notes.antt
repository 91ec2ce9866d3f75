-- to believe: what a journal's file has had on the disk, and since when
use Rattle.std.specs.Prelude.{◌≡◌, ℕ, ◌≤◌, Bool, false, List, [], ◌∷◌, ◌++◌, length, ⊤}
use Rattle.std.specs.List.{AllByRecursion}
use mathlib.Core.List.{IsPrefix}
use Rattle.casa_history.specs.declared.entry.Entry.{Entry}
use Rattle.casa_tape.specs.declared.tape.Tape.{Ghosts as TapeOf}
use Rattle.casa_tape.specs.Journals.{IsSettled}
use Rattle.casa_day.specs.declared.script.Script.{Ghosts as ScriptOf}
use Rattle.casa_day.specs.declared.journal.Told.{Told}
use Rattle.casa_day.specs.Scripts.{Say}
use Rattle.casa_day.specs.Journals.{IsKept}

-- the file is lines that say all of these entries, and a crash leaves just that
pub record Has {S C R D : Type 0} (script : ScriptOf S C R) (T : TapeOf D) (history : List (Entry C R)) (tape : D) : Type 0 where
  pub lines : List (List ℕ)
  pub settled : IsSettled T tape lines
  pub said : Say script 1 lines history

-- notes of a file: how many entries it had, and how it was then
abbrev pub Notes : Type 0 → Type 0
Notes D = List (Entry (Told D) ⊤)

-- the last of these notes is of so many entries
pub record IsNoted {D : Type 0} (notes : Notes D) (count : ℕ) : Type 0 where
  pub before : Notes D
  pub note : Entry (Told D) ⊤
  pub is : notes ≡ before ++ note ∷ []
  pub position : note.call.position ≡ count

-- one note more: the file as it is now has so many entries
pub record IsNotedNow {D : Type 0} (old new : Notes D) (tape : D) (count : ℕ) : Type 0 where
  pub note : Entry (Told D) ⊤
  pub is : new ≡ old ++ note ∷ []
  pub position : note.call.position ≡ count
  pub at : note.call.at.value ≡ tape

-- what contracts see of a journal's file: the tape, whether a write has failed, the entries, and the notes
pub record Journaled (C R D : Type 0) : Type 0 where
  pub tape : D
  pub is_broken : Bool
  pub front : List (Entry C R)
  pub notes : Notes D

-- what contracts see of what was handed out: the entries, and the notes by then
pub record Shown (C R D : Type 0) : Type 0 where
  pub front : List (Entry C R)
  pub notes : Notes D

-- a history begins with the entries that were handed out, and a crash since the last of the notes leaves a file that keeps them
pub record IsKeptFor {S C R D : Type 0} (script : ScriptOf S C R) (T : TapeOf D) (history : List (Entry C R)) (tape : D) (shown : Shown C R D) : Type 0 where
  pub begins : IsPrefix shown.front history
  pub noted : IsNoted shown.notes (length shown.front)
  pub kept : IsKept script T history tape noted.note.call

-- inner: a note stands: this history has the entries of which it is, and a crash since then leaves a file that keeps them
pub record Stands {S C R D : Type 0} (script : ScriptOf S C R) (T : TapeOf D) (history : List (Entry C R)) (tape : D) (note : Entry (Told D) ⊤) : Type 0 where
  pub kept : IsKept script T history tape note.call
  pub within : note.call.position ≤ length history

-- inner: a journal's file: all notes stand, and unless a write has failed it has just the entries, and the last note says that
pub record IsFile {S C R D : Type 0} (script : ScriptOf S C R) (T : TapeOf D) (is_broken : Bool) (front : List (Entry C R)) (tape : D) (notes : Notes D) : Type 0 where
  pub has : is_broken ≡ false → Has script T front tape
  pub last : is_broken ≡ false → IsNoted notes (length front)
  pub stands : AllByRecursion (Stands script T front tape) notes
