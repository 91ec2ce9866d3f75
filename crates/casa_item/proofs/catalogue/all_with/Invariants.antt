use Rattle.std.proofs.Common.{◌≡◌, ◌++◌, ◌∷◌, drop}
use Rattle.casa_item.specs.Crossed.{before, after}
use Rattle.casa_item.proofs.catalogue.all_with.Given as goal

abbrev pub invariant-loop-later : goal.invariant-loop-later
invariant-loop-later l =
    l.all.items ++ after l.regulation.id (drop l.later-index l.regulations)
    ≡ before l.regulation.id l.regulations ++ l.regulation ∷ after l.regulation.id l.regulations
