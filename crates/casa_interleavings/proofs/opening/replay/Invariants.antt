use Rattle.std.proofs.Common.{◌≡◌, ◌+◌, ◌≤◌, List, ℕ, length}
use Rattle.casa_tape.specs.Lines.{AreLines, journal_of}
use Rattle.casa_day.specs.Days.{IsReplayed}
use Rattle.casa_interleavings.specs.Runs.{run_history}
use Rattle.casa_interleavings.specs.Openings.{IsAgain}
use Rattle.casa_interleavings.proofs.opening.replay.Given as goal

-- the lines so far say the history so far, and what is left are lines
abbrev pub invariant-loop-line : goal.invariant-loop-line
invariant-loop-line g l = record {
  answered : IsAgain l.run;
  place : l.position ≡ length (run_history l.run);
  within : l.position + length l.rest ≤ length l.text;
  said : (lines : List (List ℕ)) → AreLines lines → l.text ≡ journal_of lines → IsReplayed g.S.Script lines l.rest (run_history l.run) l.position;
}

abbrev pub decreases-loop-line : goal.decreases-loop-line
decreases-loop-line g l = length l.rest
