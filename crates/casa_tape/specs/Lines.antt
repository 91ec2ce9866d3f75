-- to believe: the lines of a journal, and those that a crash leaves
use Rattle.std.specs.Prelude.{◌≡◌, ◌≢◌, ℕ, ◌-◌, ◌≤◌, ◌==◌, List, [], ◌∷◌, ◌++◌, length, take}
use Rattle.std.specs.List.{AllByRecursion, before_first, slice_split}

-- a line of a journal has neither LF nor NUL
abbrev pub IsLine : List ℕ → Type 0
IsLine line = AllByRecursion (λ (b : ℕ). (b ≢ 10) × (b ≢ 0)) line

-- each of these is a line
abbrev pub AreLines : List (List ℕ) → Type 0
AreLines lines = AllByRecursion IsLine lines

-- the text of lines, each with its LF
abbrev pub journal_of : List (List ℕ) → List ℕ
journal_of [] = []
journal_of (line ∷ lines) = line ++ 10 ∷ journal_of lines

-- no line with its LF stands at the beginning of these bytes
abbrev pub HasNoLine : List ℕ → Type 0
HasNoLine bytes = (line behind : List ℕ) → IsLine line → bytes ≡ line ++ 10 ∷ behind → ⊥

-- what stands before the first NUL
abbrev pub before_nul : List ℕ → List ℕ
before_nul bytes = before_first (λ b. b == 0) bytes

-- the lines that an LF ends: of the parts between LFs all but the last
abbrev pub ended_lines : List ℕ → List (List ℕ)
ended_lines bytes = let parts = slice_split (λ b. b == 10) bytes in take (length parts - 1) parts

-- the whole lines for which a file stands, whatever a crash made of it: those that an LF ends before the first NUL
abbrev pub whole_lines : List ℕ → List (List ℕ)
whole_lines bytes = ended_lines (before_nul bytes)

-- the file stands for the same lines as one of these
abbrev pub StandsAs : (List ℕ → Type 0) → List ℕ → Type 0
StandsAs files file = (other : List ℕ) × files other × (whole_lines file ≡ whole_lines other)

-- the file stands for the lines, and the first so many of the added ones
abbrev pub IsBetween : List (List ℕ) → List (List ℕ) → List ℕ → Type 0
IsBetween lines added file = (n : ℕ) × (n ≤ length added) × (whole_lines file ≡ lines ++ take n added)

-- so many bytes are the text of the whole lines
pub record IsWholeEnd (bytes : List ℕ) (end : ℕ) : Type 0 where
  pub lines : take end bytes ≡ journal_of (whole_lines bytes)
  pub within : end ≤ length bytes
