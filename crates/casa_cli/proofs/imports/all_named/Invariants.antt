use Rattle.std.proofs.Common.{◌≡◌, Some, map, take}
use Rattle.casa_cli.specs.Words.{are_locations}
use Rattle.casa_cli.proofs.imports.all_named.Given as goal

abbrev pub invariant-loop-part : goal.invariant-loop-part
invariant-loop-part l = are_locations (map (λ part. part.now) (take l.part-index l.parts)) ≡ Some l.locations.items
