use Rattle.std.proofs.Common.{◌≡◌, take}
use Rattle.csv.specs.Records.{fields_of}
use Rattle.casa_rows.specs.Rows.{texts}
use Rattle.casa_rows.proofs.table.fields_of.Given as goal

abbrev pub invariant-loop-i : goal.invariant-loop-i
invariant-loop-i l = texts l.fields.items ≡ take l.i (fields_of l.read)
