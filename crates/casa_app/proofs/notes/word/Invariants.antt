use Rattle.std.proofs.Common.{◌≡◌, ◌≤◌, ◌-◌, length}
use Rattle.casa_app.specs.Remarks.{word}
use Rattle.casa_app.proofs.notes.word.Given as goal

abbrev pub invariant-marks : goal.invariant-marks
invariant-marks l = record {
  word : word (l.marks - l.counter) l.rest ≡ word l.marks l.reply;
  short : length l.rest ≤ length l.reply;
}
