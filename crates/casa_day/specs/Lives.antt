-- to believe: lives of a program, one after the other on one journal
use Rattle.std.specs.Prelude.{◌≡◌, ℕ, ◌≤◌, List, length, take}
use Rattle.std.specs.List.{AllByRecursion, FoldsTo}
use Rattle.casa_history.specs.declared.entry.Entry.{Entry}
use Rattle.casa_commit.specs.declared.world.World.{Ghosts as WorldOf}
use Rattle.casa_commit.specs.Legal.{IsLegal}
use Rattle.casa_tape.specs.Lines.{whole_lines}
use Rattle.casa_day.specs.declared.script.Script.{Ghosts as ScriptOf}
use Rattle.casa_day.specs.Scripts.{Say, answers_in}
use Rattle.casa_day.specs.Journals.{Keeps}

-- what was done in a life: its history, how many of the entries stood in its journal at the opening, and the positions that were
-- told
pub record Life (C R : Type 0) : Type 0 where
  pub history : List (Entry C R)
  pub at_opening : ℕ
  pub told : List ℕ

-- up to this position one history has the calls and replies of another
pub record HasStill {C R : Type 0} (read history : List (Entry C R)) (position : ℕ) : Type 0 where
  pub enough : position ≤ length read
  pub same : take position (answers_in read) ≡ take position (answers_in history)

module _ {S W C V G R : Type 0} (script : ScriptOf S C R) (world : WorldOf W C V G R) where
  -- a life begins with what a file says, and a crash leaves a file that keeps what it began with and what was told
  pub record IsLived (found : List ℕ) (life : Life C R) (left : List ℕ) : Type 0 where
    pub legal : IsLegal world.after world.reply world.opening life.history
    pub within : life.at_opening ≤ length life.history
    pub opened : Say script 1 (whole_lines found) (take life.at_opening life.history)
    pub kept : Keeps script life.history life.at_opening left
    pub each : AllByRecursion (λ (position : ℕ). Keeps script life.history position left) life.told

  -- lives, each on the file that the one before it left
  abbrev pub AreLived : List ℕ → List (Life C R) → List ℕ → Type 0
  AreLived found lives left = FoldsTo IsLived found lives left

  -- a file says one legal history, and in it all that was told in any of these lives is still there
  pub record NothingIsLost (file : List ℕ) (lives : List (Life C R)) : Type 0 where
    pub read : List (Entry C R)
    pub legal : IsLegal world.after world.reply world.opening read
    pub said : Say script 1 (whole_lines file) read
    pub each : AllByRecursion (λ (life : Life C R). AllByRecursion (HasStill read life.history) life.told) lives
