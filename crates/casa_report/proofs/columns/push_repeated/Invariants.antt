use Rattle.std.proofs.Common.{◌≡◌, ◌+◌, ◌++◌, replicate}
use Rattle.arrayvec.specs.ArrayVec.{array_vec_len}
use Rattle.casa_report.proofs.columns.push_repeated.Given as goal

abbrev pub invariant-times : goal.invariant-times
invariant-times g l = record {
  text : l.line.items ≡ l.fn.line.items ++ replicate l.counter l.character;
  len : array_vec_len l.line ≡ array_vec_len l.fn.line + l.counter;
}
