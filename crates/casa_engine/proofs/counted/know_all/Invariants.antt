use Rattle.std.specs.Prelude.{◌≡◌, take, All}
use mathlib.Core.List.{IsPrefix}
use Rattle.casa_engine.specs.Fronts.{front_of}
use Rattle.casa_engine.proofs.counted.know_all.Given as goal

abbrev pub invariant-loop-desk : goal.invariant-loop-desk
invariant-loop-desk g l = record {
  same : l.keeper ≡ l.fn.keeper;
  known : All (λ desk. IsPrefix (front_of desk) l.fn.keeper) (take l.desk-index l.fn.passes);
}
