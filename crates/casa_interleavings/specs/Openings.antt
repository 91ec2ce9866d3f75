-- to believe: a journal whose calls are answered again
use Rattle.std.specs.Prelude.{◌≡◌, ℕ, List, length}
use Rattle.casa_flight.specs.declared.call.Call.{Call}
use Rattle.casa_flight.specs.declared.reply.Reply.{Reply}
use Rattle.casa_tape.specs.declared.tape.Tape.{Ghosts as TapeOf}
use Rattle.casa_tape.specs.Lines.{whole_lines}
use Rattle.casa_tape.specs.Journals.{IsSettled}
use Rattle.casa_day.specs.declared.script.Script.{Ghosts as ScriptOf}
use Rattle.casa_day.specs.declared.journal.Journal.{Journal}
use Rattle.casa_day.specs.Scripts.{calls_in, Say}
use Rattle.casa_day.specs.Journals.{IsBegun, IsRunning}
use Rattle.casa_interleavings.specs.Scenes.{IsRun}
use Rattle.casa_interleavings.specs.Board.{sequential_reply, HasSameStamps}
use Rattle.casa_interleavings.specs.Runs.{Played, run_events, run_history, run_outcomes}
use Rattle.casa_interleavings.specs.Deeds.{again}

module _ {B : Type 0} where
  -- a run of a board
  abbrev pub IsBoardRun : Played B Call Reply → Type 0
  IsBoardRun run = IsRun sequential_reply HasSameStamps (run_events run) (run_history run) (run_outcomes run)

  -- inner: a run in which worker 0 has answered the calls of the history, and nobody did anything else
  pub record IsAgain (run : Played B Call Reply) : Type 0 where
    pub events : run_events run ≡ again (calls_in (run_history run))
    pub is_run : IsBoardRun run

  -- a run and its journal at their opening: these lines say the history, which is that of their calls, answered again
  pub record IsOpened {S D : Type 0} (script : ScriptOf S Call Reply) (T : TapeOf D) (lines : List (List ℕ)) (run : Played B Call Reply) (journal : Journal D) : Type 0 where
    pub said : Say script 1 lines (run_history run)
    pub settled : IsSettled T journal.tape lines
    pub is_run : IsBoardRun run
    pub events : run_events run ≡ again (calls_in (run_history run))
    pub begun : IsBegun journal.tape (length (run_history run)) journal

  -- inner: the lines that were found in a file are settled on the tape, and say the history of such a run
  pub record IsReopened {S D : Type 0} (script : ScriptOf S Call Reply) (T : TapeOf D) (old new : D) (run : Played B Call Reply) : Type 0 where
    pub answered : IsAgain run
    pub lines : List (List ℕ)
    pub found : (xs : List ℕ) → T.holds old xs → lines ≡ whole_lines xs
    pub settled : IsSettled T new lines
    pub said : Say script 1 lines (run_history run)

  -- a run and its journal that can go on
  pub record IsGoing {S D : Type 0} (script : ScriptOf S Call Reply) (T : TapeOf D) (run : Played B Call Reply) (journal : Journal D) : Type 0 where
    pub is_run : IsBoardRun run
    pub journaled : IsRunning script T (run_history run) journal
