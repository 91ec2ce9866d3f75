-- to believe: what an opening does to its file
use Rattle.std.specs.Prelude.{ℕ}
use Rattle.casa_tape.specs.declared.tape.Tape.{Ghosts as TapeOf}
use Rattle.casa_tape.specs.Lines.{StandsAs}
use Rattle.casa_tape.specs.Journals.{LeavesOnly}
use Rattle.casa_kept.specs.Notes.{IsNoted, Notes}

-- The opening ends with a note that the file has so many entries. A crash at any moment of it leaves a file that stands for the
-- same lines as one that a crash before might have left.
pub record IsOpenedAs {D : Type 0} (T : TapeOf D) (tape : D) (notes : Notes D) (count : ℕ) : Type 0 where
  pub noted : IsNoted notes count
  pub any_moment : LeavesOnly T tape noted.note.call.at.value (StandsAs (T.may_leave tape))
