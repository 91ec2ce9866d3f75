-- how a day goes on, and how it ends
use Rattle.std.proofs.Common.{◌≡◌, ℕ, ◌<◌, ◌≤◌, arith, Ok, Err, List, length, take, refl}
use Rattle.std.specs.Prelude.{IsErrOf}
use Rattle.casa_flight.specs.declared.call.Call.{Call}
use Rattle.casa_flight.specs.declared.reply.Reply.{Reply}
use Rattle.casa_tape.specs.declared.tape.Tape.{Ghosts as TapeOf}
use Rattle.casa_day.specs.declared.script.Script.{Ghosts as ScriptOf}
use Rattle.casa_day.specs.declared.event.DayFault.{DayFault}
use Rattle.casa_day.specs.declared.event.DayFault.TheVariants.{NotWritten}
use Rattle.casa_day.specs.declared.journal.Journal.{Journal}
use Rattle.casa_tape.specs.Journals.{LeavesOnly}
use Rattle.casa_day.specs.Journals.{Grows, IsSafe, Keeps}
use Rattle.casa_day.proofs.Keeping.{kept_on}
use Rattle.casa_day.proofs.Lists.{grows_not}
use Rattle.casa_interleavings.specs.Runs.{Played, run_history, run_outcomes}
use Rattle.casa_interleavings.specs.declared.day_event.DayEvent.{DayEvent}
use Rattle.casa_interleavings.specs.Courses.{GoOn}
use Rattle.casa_interleavings.specs.Openings.{IsGoing}
use Rattle.casa_interleavings.specs.Lives.{HasGoneOn}
use Rattle.casa_interleavings.proofs.Coursing.{stage_of}
use Rattle.casa_interleavings.proofs.Refusing.{failed}

-- the first so many of the events happened, and led from one run and its journal to another
pub record HasCome {S D B : Type 0} (script : ScriptOf S Call Reply) (T : TapeOf D) (begun : Played B Call Reply)
    (opened : Journal D) (events : List (DayEvent Call)) (happened : ℕ) (run : Played B Call Reply) (journal : Journal D)
    : Type 0 where
  pub going : IsGoing script T run journal
  pub grown : Grows (run_history begun) (run_history run)
  pub journaled : opened.journaled ≤ journal.journaled
  pub any_moment : LeavesOnly T opened.tape journal.tape (Keeps script (run_history run) opened.journaled)
  pub goes_on : GoOn script T (take happened events) (stage_of begun opened) (stage_of run journal)

module _ {S D B : Type 0} {script : ScriptOf S Call Reply} {T : TapeOf D} {begun run : Played B Call Reply}
    {opened journal : Journal D} {events : List (DayEvent Call)} {happened : ℕ}
    (now : HasCome script T begun opened events happened run journal) where
  -- all events happened
  pub ended : happened ≡ length events
      → HasGoneOn script T (run_history begun) (stage_of begun opened) events (Ok run) journal
  ended all = record {
    happened = happened;
    within = omega (arith, all);
    all = all;
    failed = tt;
    last = stage_of run journal;
    goes_on = now.goes_on;
    history = run_history run;
    outcomes = run_outcomes run;
    is_run = now.going.is_run;
    begins = now.grown;
    same = (refl, refl, λ w. refl, refl);
    told = refl;
    journaled = refl;
    any_moment = now.any_moment;
    safe = now.going.journaled.safe;
    cause = λ failed. absurd (cc failed);
  }

  -- the next one could not
  pub cut_short : happened < length events → (fault : DayFault) (left : Journal D)
      → LeavesOnly T journal.tape left.tape (Keeps script (run_history run) journal.journaled)
      → left.journaled ≡ journal.journaled → left.told.items ≡ journal.told.items → IsSafe script T (run_history run) left
      → (IsErrOf (failed {A = Played B Call Reply} fault) NotWritten → T.has_failed left.tape)
      → HasGoneOn {B = B} script T (run_history begun) (stage_of begun opened) events (Err fault) left
  cut_short before fault left then same told safe cause = record {
    happened = happened;
    within = omega (arith, before);
    all = tt;
    failed = before;
    last = stage_of run journal;
    goes_on = now.goes_on;
    history = run_history run;
    outcomes = run_outcomes run;
    is_run = now.going.is_run;
    begins = now.grown;
    same = tt;
    told = told;
    journaled = same;
    any_moment = kept_on script T (run_history run) (run_history run) opened.journaled journal.journaled
        opened.tape journal.tape left.tape (grows_not (run_history run)) now.journaled now.any_moment then;
    safe = safe;
    cause = cause;
  }
