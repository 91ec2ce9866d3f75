use Rattle.std.specs.Prelude.{◌≡◌, ◌+◌, ◌≤◌, length}
use Rattle.casa_engine.specs.Passes.{calls_in}
use Rattle.casa_engine.proofs.counted.gather.Given as goal

abbrev pub invariant-loop-desk : goal.invariant-loop-desk
invariant-loop-desk g l = record {
  parts : l.all.parts + length l.desk-iterator.rest.items ≡ l.fn.spare.parts + length l.fn.passes.items;
  within : l.all.parts ≤ g.L.Ledger.parts;
  amount : l.all.amount + calls_in l.desk-iterator.rest.items ≡ l.fn.spare.amount + calls_in l.fn.passes.items;
}
