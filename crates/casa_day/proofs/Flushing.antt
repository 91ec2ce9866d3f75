-- A flush writes the entries that the journal does not have.
use Rattle.std.proofs.Common.{◌≡◌, ℕ, ◌+◌, List, ◌++◌, length, drop, sym, subst, arith}
use Rattle.std.specs.List.{AllByRecursion}
use Rattle.casa_history.specs.declared.entry.Entry.{Entry}
use Rattle.casa_tape.specs.declared.tape.Tape.{Ghosts as TapeOf}
use Rattle.casa_tape.specs.Lines.{AreLines, IsBetween, journal_of}
use Rattle.casa_tape.specs.Journals.{IsSettled, LeavesOnly}
use Rattle.casa_tape.proofs.Moments.{leaves_each}
use Rattle.casa_day.specs.declared.script.Script.{Ghosts as ScriptOf}
use Rattle.casa_day.specs.declared.journal.Journal.{Journal}
use Rattle.casa_day.specs.Scripts.{IsTextOf}
use Rattle.casa_day.specs.Journals.{IsKept, IsRunning, Keeps}
use Rattle.casa_day.proofs.Keeping.{between_keeps, written_safe, written_all}

-- the text of what stands behind in a history
pub text_is : {S C R : Type 0} → (script : ScriptOf S C R) (journaled : ℕ) (es behind : List (Entry C R)) (text shown : List ℕ) → drop journaled es ≡ behind → shown ≡ text
    → IsTextOf script (journaled + 1) behind text → IsTextOf script (journaled + 1) (drop journaled es) shown
text_is script journaled es behind text shown same is of =
    subst (λ (x : List (Entry _ _) × List ℕ). IsTextOf script (journaled + 1) x.0 x.1) (λ i. (sym same i, sym is i)) of

module _ {S C R D : Type 0} (script : ScriptOf S C R) (T : TapeOf D) (es : List (Entry C R)) (journal : Journal D) (new : D) (text : List ℕ)
    (is : IsTextOf script (journal.journaled + 1) (drop journal.journaled es) text) (r : IsRunning script T es journal)
    (leaves : (lines added : List (List ℕ)) → AreLines added → text ≡ journal_of added → IsSettled T journal.tape lines → LeavesOnly T journal.tape new (IsBetween lines added)) where
  pub flush_safe : AllByRecursion (IsKept script T es new) journal.told.items
  flush_safe = written_safe script T es journal new is.lines r is.said (leaves r.lines is.lines is.are is.is r.settled)

  pub flush_keeps : LeavesOnly T journal.tape new (Keeps script es journal.journaled)
  flush_keeps =
      leaves_each T journal.tape new (IsBetween r.lines is.lines) (Keeps script es journal.journaled)
      (λ c between. between_keeps script es journal.journaled journal.journaled r.lines is.lines c r.within (omega arith) r.said is.said between)
      (leaves r.lines is.lines is.are is.is r.settled)

  pub flush_running : (count : ℕ) → count ≡ length es
      → ((lines added : List (List ℕ)) → AreLines added → text ≡ journal_of added → IsSettled T journal.tape lines → IsSettled T new (lines ++ added))
      → IsRunning script T es (record { tape = new; journaled = count; told = journal.told })
  flush_running count all settles =
      written_all script T es journal new is.lines count r all is.said (leaves r.lines is.lines is.are is.is r.settled) (settles r.lines is.lines is.are is.is r.settled)
