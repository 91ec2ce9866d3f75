-- to believe: what stands behind the whole lines of a journal's file
use Rattle.std.specs.Prelude.{◌≡◌, ℕ, ◌≤◌, List, ◌++◌, length, Contains}
use Rattle.casa_tape.specs.Lines.{journal_of, whole_lines}
use Rattle.casa_keeper.specs.declared.recovery.RecoveryFault.{RecoveryFault}
use Rattle.casa_keeper.specs.declared.recovery.RecoveryFault.TheVariants.{Refused, NotAlone, MoreThanTorn, NotSetAside}

-- a part of one line, or nothing: it has no line's end, and is no longer than a line may be
pub record IsTornLine (torn : List ℕ) : Type 0 where
  pub short : length torn ≤ 1048576
  pub no_end : Contains torn 10 → ⊥

-- behind its whole lines, which are so many, a file has so many bytes, which are more than a torn line
pub record HasMoreThanTorn (file : List ℕ) (lines bytes : ℕ) : Type 0 where
  pub torn : List ℕ
  pub is : file ≡ journal_of (whole_lines file) ++ torn
  pub lines_are : length (whole_lines file) ≡ lines
  pub bytes_are : length torn ≡ bytes
  pub more : IsTornLine torn → ⊥

-- where more than a torn line was found, so many bytes behind so many lines, this is so of them
abbrev pub IfMoreThanTorn : (ℕ → ℕ → Type 0) → RecoveryFault → Type 0
IfMoreThanTorn P (Refused why) = Unit {0}
IfMoreThanTorn P NotAlone = Unit {0}
IfMoreThanTorn P (MoreThanTorn lines bytes) = P lines bytes
IfMoreThanTorn P NotSetAside = Unit {0}
