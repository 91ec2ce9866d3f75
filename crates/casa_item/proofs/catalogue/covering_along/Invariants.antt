use Rattle.std.proofs.Common.{◌≡◌, ◌++◌, drop}
use Rattle.casa_item.specs.Crossed.{at_place, covering_along}
use Rattle.casa_item.proofs.catalogue.covering_along.Given as goal

abbrev pub invariant-loop-crossing : goal.invariant-loop-crossing
invariant-loop-crossing l =
    let place = at_place (λ v. v.items) l.places.entries in
    l.found ++ covering_along place (drop l.crossing-index l.crossing-items) ≡ covering_along place l.plan.via
