-- to believe: a journal that keeps a history, and what a crash leaves of it
use Rattle.std.specs.Prelude.{◌≡◌, ℕ, ◌≤◌, nat_le, List, [], ◌∷◌, ◌++◌, filter, length, map, take}
use Rattle.std.specs.List.{AllByRecursion}
use Rattle.casa_history.specs.declared.entry.Entry.{Entry}
use Rattle.casa_tape.specs.declared.tape.Tape.{Ghosts as TapeOf}
use Rattle.casa_tape.specs.Lines.{whole_lines}
use Rattle.casa_tape.specs.Journals.{IsSettled}
use Rattle.casa_day.specs.declared.script.Script.{Ghosts as ScriptOf}
use Rattle.casa_day.specs.declared.journal.Told.{Told}
use Rattle.casa_day.specs.declared.journal.Journal.{Journal}
use Rattle.casa_day.specs.Scripts.{Say}

-- the whole lines of a file say the first of these entries, and so many of them at least
pub record Keeps {S C R : Type 0} (script : ScriptOf S C R) (history : List (Entry C R)) (least : ℕ) (file : List ℕ) : Type 0 where
  pub count : ℕ
  pub enough : least ≤ count
  pub within : count ≤ length history
  pub said : Say script 1 (whole_lines file) (take count history)

-- a crash at any moment since a reply was told leaves a file that has its call, and all before it
pub record IsKept {S C R D : Type 0} (script : ScriptOf S C R) (T : TapeOf D) (history : List (Entry C R)) (tape : D) (told : Told D) : Type 0 where
  pub past : T.moment told.at.value ≤ T.moment tape
  pub kept : (c : List ℕ) → T.left_since tape (T.moment told.at.value) c → Keeps script history told.position c

-- the positions that were told
abbrev pub told_of : {D : Type 0} → Journal D → List ℕ
told_of journal = map (λ (t : Told _). t.position) journal.told.items

-- those of them that were told by this moment
abbrev pub told_by : {D : Type 0} → TapeOf D → Journal D → ℕ → List ℕ
told_by T journal moment = map (λ (t : Told _). t.position) (filter (λ (t : Told _). nat_le (T.moment t.at.value) moment) journal.told.items)

-- nothing of this history that was told is lost
abbrev pub IsSafe : {S C R D : Type 0} → ScriptOf S C R → TapeOf D → List (Entry C R) → Journal D → Type 0
IsSafe script T history journal = AllByRecursion (IsKept script T history journal.tape) journal.told.items

-- a journal of this history that is safe, and can go on: its lines say the first entries, so many as it counts, and are on the
-- disk; and nothing beyond was told
pub record IsRunning {S C R D : Type 0} (script : ScriptOf S C R) (T : TapeOf D) (history : List (Entry C R)) (journal : Journal D) : Type 0 where
  pub safe : IsSafe script T history journal
  pub lines : List (List ℕ)
  pub settled : IsSettled T journal.tape lines
  pub within : journal.journaled ≤ length history
  pub said : Say script 1 lines (take journal.journaled history)
  pub covered : AllByRecursion (λ (t : Told D). t.position ≤ journal.journaled) journal.told.items

-- a journal at its opening on this tape: it has so many entries, and all of them were told now
pub record IsBegun {D : Type 0} (tape : D) (count : ℕ) (journal : Journal D) : Type 0 where
  pub tape_is : journal.tape ≡ tape
  pub journaled : journal.journaled ≡ count
  pub opening : Told D
  pub alone : journal.told.items ≡ opening ∷ []
  pub all : opening.position ≡ count
  pub now : opening.at.value ≡ tape

-- a journal was open by this moment: what counted as told at its opening was told by then
pub record WasOpen {D : Type 0} (T : TapeOf D) (journal : Journal D) (moment : ℕ) : Type 0 where
  pub opening : Told D
  pub others : List (Told D)
  pub first : journal.told.items ≡ opening ∷ others
  pub by : T.moment opening.at.value ≤ moment

-- the replies at these positions were told now, and the journal had their calls
pub record IsToldNow {D : Type 0} (old new : Journal D) (positions : List ℕ) : Type 0 where
  pub now : List (Told D)
  pub behind : new.told.items ≡ old.told.items ++ now
  pub are : map (λ (t : Told D). t.position) now ≡ positions
  pub each : AllByRecursion (λ (t : Told D). (t.position ≤ old.journaled) × (t.at.value ≡ old.tape)) now

-- one list is the other with some behind it
abbrev pub Grows : {A : Type 0} → List A → List A → Type 0
Grows {A} old new = (more : List A) × (new ≡ old ++ more)
