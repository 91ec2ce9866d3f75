use Rattle.std.proofs.Common.{◌≡◌, ◌++◌, drop}
use Rattle.std.specs.List.{filter}
use Rattle.casa_filing.specs.Text.{Text}
use Rattle.casa_item.specs.Crossed.{at_place, is_over}
use Rattle.casa_item.proofs.catalogue.places_of.Given as goal

abbrev pub invariant-loop-regulation : goal.invariant-loop-regulation
invariant-loop-regulation l =
    (loc : Text)
    → at_place (λ v. v.items) l.places.entries loc ++ filter (is_over loc) (drop l.regulation-index l.regulations)
    ≡ filter (is_over loc) l.regulations
