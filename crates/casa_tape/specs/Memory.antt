-- to believe: what a file in memory shows, and what a crash leaves of it
use Rattle.std.specs.Prelude.{◌≡◌, ℕ, ◌≤◌, Some, List, [], ◌∷◌, ◌++◌, take, slice_get}
use Rattle.casa_tape.specs.declared.memory.Standing.{Standing}
use Rattle.casa_tape.specs.declared.memory.MemoryTape.{MemoryTape}
use Rattle.casa_tape.specs.Tape.{TornBehind}

-- what a read returns
abbrev pub shown_bytes : Standing → List ℕ
shown_bytes s = s.solid.items ++ take s.shown s.loose.items

-- a crash leaves what is on the disk, and a torn part of what is not: what was written since, or was cut off
abbrev pub left_by : Standing → List ℕ → Type 0
left_by s left = TornBehind s.loose.items s.solid.items left

-- the bytes that a crash leaves, where so many came to the disk of those that were written since
abbrev pub left_with : Standing → ℕ → List ℕ
left_with s kept = s.solid.items ++ take kept s.loose.items

-- how the file has stood at each moment, up to now
abbrev pub standings : MemoryTape → List Standing
standings tape = tape.past.items ++ tape.state ∷ []

-- as a file stood at this moment or later, a crash may have left these bytes
pub record WasLeft (standings : List Standing) (since : ℕ) (left : List ℕ) : Type 0 where
  pub moment : ℕ
  pub later : since ≤ moment
  pub then : Standing
  pub stood : slice_get standings moment ≡ Some then
  pub crash : left_by then left
