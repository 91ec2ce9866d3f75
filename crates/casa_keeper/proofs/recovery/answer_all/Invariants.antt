use Rattle.std.proofs.Common.{◌≡◌, ◌+◌, ◌≤◌, List, ℕ, length}
use Rattle.casa_tape.specs.Lines.{AreLines, journal_of}
use Rattle.casa_day.specs.Days.{IsReplayed}
use Rattle.casa_engine.specs.Fronts.{front_of}
use Rattle.casa_keeper.proofs.recovery.answer_all.Given as goal

-- the lines so far say what the desk has seen so far, and what is left are lines
abbrev pub invariant-loop-line : goal.invariant-loop-line
invariant-loop-line g l = record {
  within : l.position + length l.rest ≤ length l.text;
  count : l.position ≡ length (front_of l.desk);
  said : (lines : List (List ℕ)) → AreLines lines → l.text ≡ journal_of lines → IsReplayed g.S.Script lines l.rest (front_of l.desk) l.position;
}

abbrev pub decreases-loop-line : goal.decreases-loop-line
decreases-loop-line g l = length l.rest
