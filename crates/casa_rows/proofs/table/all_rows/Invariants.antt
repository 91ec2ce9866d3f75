use Rattle.std.proofs.Common.{Bor, List, ℕ, ◌≡◌, ◌<◌, Some}
use Rattle.csv.specs.Reading.{Ready}
use Rattle.csv.specs.declared.reader.Trim.TheVariants as trim
use Rattle.casa_rows.specs.Rows.{config}
use Rattle.casa_rows.specs.Walk.{IsPlace}
use Rattle.casa_rows.proofs.Records.{After}
use Rattle.casa_rows.proofs.table.all_rows.Given as goal

abbrev pub invariant-loop-read : goal.invariant-loop-read
invariant-loop-read l = record {
  trim : l.read-iterator.rdr.trim ≡ trim.None;
  ready : Ready l.read-iterator.rdr;
  left : 0 < l.read-iterator.left;
  how : l.read-iterator.rdr.config ≡ config l.separator;
  place : IsPlace l.text l.behind;
  read : After (λ (s : Bor (List ℕ)). Some s.now) l.read-iterator.rdr l.separator l.text l.behind.at l.rows.items;
}
