-- to believe: a file of lines on a tape, and what a crash leaves of it
use Rattle.std.specs.Prelude.{◌≡◌, ◌⊎◌, ℕ, ◌≤◌, List}
use Rattle.casa_tape.specs.declared.tape.Tape.{Ghosts as TapeOf}
use Rattle.casa_tape.specs.Tape.{IsSynced}
use Rattle.casa_tape.specs.Lines.{AreLines, journal_of}

-- whatever a read may return is these bytes
abbrev pub HoldsOnly : {D : Type 0} → TapeOf D → D → List ℕ → Type 0
HoldsOnly T tape bytes = (xs : List ℕ) → T.holds tape xs → bytes ≡ xs

-- the file is these lines, and a crash leaves just that
pub record IsSettled {D : Type 0} (T : TapeOf D) (tape : D) (lines : List (List ℕ)) : Type 0 where
  pub are : AreLines lines
  pub synced : IsSynced T.holds T.may_leave tape
  pub held : HoldsOnly T tape (journal_of lines)

-- From old to new, a crash at any moment leaves a file that has P; and of the moments before, what one might have left is as it
-- was, all of that and, but for the moments since, nothing else.
pub record LeavesOnly {D : Type 0} (T : TapeOf D) (old new : D) (P : List ℕ → Type 0) : Type 0 where
  pub later : T.moment old ≤ T.moment new
  pub each : (c : List ℕ) → T.left_since new (T.moment old) c → P c
  pub before : (t : ℕ) (c : List ℕ) → t ≤ T.moment old → T.left_since new t c → T.left_since old t c ⊎ P c
  pub keeps : (t : ℕ) (c : List ℕ) → t ≤ T.moment old → T.left_since old t c → T.left_since new t c
