use Rattle.std.proofs.Common.{◌≡◌, ◌++◌, drop}
use Rattle.casa_item.specs.Crossed.{covering}
use Rattle.casa_item.proofs.catalogue.add_covering.Given as goal

abbrev pub invariant-loop-regulation : goal.invariant-loop-regulation
invariant-loop-regulation l =
    l.found ++ covering (drop l.regulation-index l.regulations) l.crossing
    ≡ l.initial.found ++ covering l.regulations l.crossing
