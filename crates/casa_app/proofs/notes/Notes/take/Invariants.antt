use Rattle.std.proofs.Common.{ℕ, List, ◌++◌, take}
use Rattle.casa_app.specs.Notes.{AreOf}
use Rattle.casa_app.proofs.notes.Notes.take.Given as goal

abbrev pub invariant-bytes : goal.invariant-bytes
invariant-bytes l = (before : List ℕ) → AreOf l.initial.self before → AreOf l.self (before ++ take l.byte-index l.bytes)
