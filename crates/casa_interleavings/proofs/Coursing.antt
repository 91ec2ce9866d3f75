-- how a course goes on
use Rattle.std.proofs.Common.{◌≡◌, List, [], ◌∷◌, ◌++◌, refl, sym, subst}
use Rattle.casa_flight.specs.declared.call.Call.{Call}
use Rattle.casa_flight.specs.declared.reply.Reply.{Reply}
use Rattle.casa_tape.specs.declared.tape.Tape.{Ghosts as TapeOf}
use Rattle.casa_day.specs.declared.script.Script.{Ghosts as ScriptOf}
use Rattle.casa_day.specs.declared.journal.Journal.{Journal}
use Rattle.casa_interleavings.specs.Runs.{Played, run_events}
use Rattle.casa_interleavings.specs.declared.day_event.DayEvent.{DayEvent}
use Rattle.casa_interleavings.specs.Courses.{Stage, GoesOn, GoOn}

-- how far a day is with this run and this journal
abbrev pub stage_of : {B D : Type 0} → Played B Call Reply → Journal D → Stage D
stage_of run journal = record { deeds = run_events run; journal = journal }

module _ {S D : Type 0} (script : ScriptOf S Call Reply) (T : TapeOf D) where
  -- an event leads on as the one does that it is
  pub goes_by : {e is : DayEvent Call} (a b : Stage D) → e ≡ is → GoesOn script T is a b → GoesOn script T e a b
  goes_by a b same goes = subst (λ (x : DayEvent Call). GoesOn script T x a b) (sym same) goes

  -- one event more
  pub goes_push : (es : List (DayEvent Call)) (e : DayEvent Call) (a b c : Stage D) → GoOn script T es a b
      → GoesOn script T e b c → GoOn script T (es ++ e ∷ []) a c
  goes_push [] e a b c is goes = (c, subst (λ (x : Stage D). GoesOn script T e x c) (sym is) goes, refl)
  goes_push (x ∷ es) e a b c on goes = (on.0, on.1, goes_push es e on.0 b c on.2 goes)
