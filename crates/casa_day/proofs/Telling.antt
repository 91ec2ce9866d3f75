-- A reply is told, or none.
use Rattle.std.proofs.Common.{◌≡◌, ℕ, List, [], Result, Ok, Err, refl, sym, ◌∙◌}
use Rattle.std.specs.Prelude.{OnOk, OnErr}
use Rattle.std.proofs.lemmas.List.{append-nil}
use Rattle.casa_history.specs.declared.entry.Entry.{Entry}
use Rattle.casa_tape.specs.declared.tape.Tape.{Ghosts as TapeOf}
use Rattle.casa_day.specs.declared.script.Script.{Ghosts as ScriptOf}
use Rattle.casa_day.specs.declared.journal.Journal.{Journal}
use Rattle.casa_day.specs.Journals.{Grows, IsRunning, IsToldNow}
use Rattle.casa_day.proofs.Keeping.{running_told}

not_told : {D : Type 0} → (old new : Journal D) → new.told.items ≡ old.told.items → IsToldNow old new []
not_told old new same = record { now = []; behind = same ∙ sym (append-nil old.told.items); are = refl; each = tt }

-- however it ended, a journal that was running goes on
pub tell_running : {S C R D A F : Type 0} → (script : ScriptOf S C R) (T : TapeOf D) (es : List (Entry C R)) (old new : Journal D) (result : Result A F) (positions : List ℕ)
    → ((c : List ℕ) → T.left_since old.tape (T.moment old.tape) c → T.may_leave old.tape c) → (new.tape ≡ old.tape) × (new.journaled ≡ old.journaled)
    → OnOk result (IsToldNow old new positions) → OnErr result (new.told.items ≡ old.told.items) → IsRunning script T es old → IsRunning script T es new
tell_running script T es old new (Ok x) positions only same told untold r = running_told script T es old new positions only same.0 same.1 told r
tell_running script T es old new (Err f) positions only same told untold r = running_told script T es old new [] only same.0 same.1 (not_told old new untold) r

pub tell_grows : {D A F : Type 0} → (old new : Journal D) (result : Result A F) (positions : List ℕ)
    → OnOk result (IsToldNow old new positions) → OnErr result (new.told.items ≡ old.told.items) → Grows old.told.items new.told.items
tell_grows old new (Ok x) positions told untold = (told.now, told.behind)
tell_grows old new (Err f) positions told untold = ([], untold ∙ sym (append-nil old.told.items))
