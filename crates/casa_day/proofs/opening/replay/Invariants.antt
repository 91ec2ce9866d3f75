use Rattle.std.proofs.Common.{◌≡◌, ◌+◌, ◌<◌, ◌≤◌, List, ℕ, length}
use Rattle.casa_commit.specs.Legal.{IsLegal}
use Rattle.casa_commit.specs.Rooms.{entries_of, open_desks}
use Rattle.casa_tape.specs.Lines.{AreLines, journal_of}
use Rattle.casa_day.specs.Days.{IsReplayed}
use Rattle.casa_day.proofs.opening.replay.Given as goal

-- the lines so far say the entries so far, which are legal, and what is left are lines
abbrev pub invariant-loop-line : goal.invariant-loop-line
invariant-loop-line g l = record {
  desk : 0 < open_desks l.room;
  desks : open_desks l.room ≡ open_desks l.fn.room;
  within : l.position + length l.rest ≤ length l.text;
  legal : IsLegal g.W.World.after g.W.World.reply g.W.World.opening (entries_of l.room);
  said : (lines : List (List ℕ)) → AreLines lines → l.text ≡ journal_of lines → IsReplayed g.S.Script lines l.rest (entries_of l.room) l.position;
}

abbrev pub decreases-loop-line : goal.decreases-loop-line
decreases-loop-line g l = length l.rest
