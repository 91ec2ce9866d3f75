-- to believe: why a journal is refused
use Rattle.std.specs.Prelude.{◌≡◌, ℕ, ◌+◌, Some, None, List, ◌∷◌, ◌++◌, length}
use Rattle.casa_history.specs.declared.entry.Entry.{Entry}
use Rattle.casa_commit.specs.declared.world.World.{Ghosts as WorldOf}
use Rattle.casa_commit.specs.Legal.{replay, IsLegal}
use Rattle.casa_day.specs.declared.script.Script.{Ghosts as ScriptOf}
use Rattle.casa_day.specs.declared.event.OpenFault.{OpenFault}
use Rattle.casa_day.specs.declared.event.OpenFault.TheVariants as opening
use Rattle.casa_day.specs.Scripts.{Say}

-- a fault that comes of what a line says
abbrev pub IsOfLines : OpenFault → Type 0
IsOfLines opening.NotRead = ⊥
IsOfLines (opening.BadLine n) = Unit {0}
IsOfLines (opening.ReplayDiffers n) = Unit {0}
IsOfLines opening.NoMemory = ⊥

-- a line says a call at its position, and does not vouch for the reply that this call has after these entries
pub record IsAnsweredOtherwise {S W C V G R : Type 0} (script : ScriptOf S C R) (world : WorldOf W C V G R) (before : List (Entry C R)) (position : ℕ) (line : List ℕ) : Type 0 where
  pub call : C
  pub said : script.says position line ≡ Some call
  pub other : script.vouches_for position line (world.reply (replay world.after world.opening before) call) → ⊥

-- a line at a position, after these entries, is refused with this fault
abbrev pub IsRefusedAt : {S W C V G R : Type 0} → ScriptOf S C R → WorldOf W C V G R → List (Entry C R) → ℕ → List ℕ → OpenFault → Type 0
IsRefusedAt script world before position line opening.NotRead = ⊥
IsRefusedAt script world before position line (opening.BadLine n) = (n ≡ position) × (script.says position line ≡ None)
IsRefusedAt script world before position line (opening.ReplayDiffers n) = (n ≡ position) × IsAnsweredOtherwise script world before position line
IsRefusedAt script world before position line opening.NoMemory = Unit {0}

-- a journal of these lines is refused with a fault: the first ones say a legal history, and the next one is refused
pub record IsRefused {S W C V G R : Type 0} (script : ScriptOf S C R) (world : WorldOf W C V G R) (lines : List (List ℕ)) (fault : OpenFault) : Type 0 where
  pub first : List (List ℕ)
  pub line : List ℕ
  pub behind : List (List ℕ)
  pub split : lines ≡ first ++ line ∷ behind
  pub before : List (Entry C R)
  pub legal : IsLegal world.after world.reply world.opening before
  pub said : Say script 1 first before
  pub refused : IsRefusedAt script world before (length first + 1) line fault
