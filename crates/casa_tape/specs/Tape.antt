-- to believe: what the calls of a tape do to its file, and what a crash leaves
use Rattle.std.specs.Prelude.{◌≡◌, ◌⊎◌, ℕ, ◌≤◌, List, [], ◌∷◌, ◌++◌, take, drop, Result, OnOk, IsErrOf}
use Rattle.casa_tape.specs.declared.tape.TapeError.{TapeError}
use Rattle.casa_tape.specs.declared.tape.TapeError.TheVariants.{Failed}

-- what was written, as a crash before the next sync leaves it: a beginning, each byte as it was written or NUL
abbrev pub IsTorn : List ℕ → List ℕ → Type 0
IsTorn bytes [] = Unit {0}
IsTorn [] (c ∷ cs) = ⊥
IsTorn (b ∷ bytes) (c ∷ cs) = ((c ≡ b) ⊎ (c ≡ 0)) × IsTorn bytes cs

-- after a write at the end: what stood there, and a torn part of the new bytes
abbrev pub TornBehind : List ℕ → List ℕ → List ℕ → Type 0
TornBehind bytes old new = (torn : List ℕ) × IsTorn bytes torn × (new ≡ old ++ torn)

-- after a cut to a length: a torn part of what stood behind it may still be there
abbrev pub CutTo : ℕ → List ℕ → List ℕ → Type 0
CutTo len old new = (torn : List ℕ) × IsTorn (drop len old) torn × (new ≡ take len old ++ torn)

-- whatever a crash may leave now is what it might have left before, after a step
abbrev pub Follows : (List ℕ → List ℕ → Type 0) → (List ℕ → Type 0) → (List ℕ → Type 0) → Type 0
Follows step old new = (c : List ℕ) → new c → (d : List ℕ) × old d × step d c

-- a crash leaves only what a read may return
abbrev pub IsSynced : {D : Type 0} → (D → List ℕ → Type 0) → (D → List ℕ → Type 0) → D → Type 0
IsSynced holds may_leave tape = (c : List ℕ) → may_leave tape c → holds tape c

-- Time goes on in a call: a crash since t might have left all that it might have left before the call, and besides nothing but
-- what it may leave now.
pub record Elapses (before now : ℕ) (past since : ℕ → List ℕ → Type 0) (may_leave : List ℕ → Type 0) : Type 0 where
  pub later : before ≤ now
  pub nothing_else : (t : ℕ) (c : List ℕ) → t ≤ before → since t c → past t c ⊎ may_leave c
  pub keeps : (t : ℕ) (c : List ℕ) → t ≤ before → past t c → since t c

-- a file that has failed stays so; `Failed` is told only of such a file, and `Ok` only where it did not fail in this call
pub record HasCause {T : Type 0} (before now : Type 0) (result : Result T TapeError) : Type 0 where
  pub stays : before → now
  pub failed : IsErrOf result Failed → now
  pub ok : OnOk result (now → before)
