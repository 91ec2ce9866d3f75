use Rattle.std.proofs.Common.{◌∙◌, ap}
use Rattle.std.specs.Ordering.{nat_cmp, is_lt}
use Rattle.std.specs.Cmp.Lexicographic.{slice_cmp}
use Rattle.casa_filing.proofs.Numbers.{names_cmp}
use Rattle.casa_filing.proofs.name.Name.is_before.Goals as goal

pub returns : goal.returns
returns g c =
    c.are_before.ensures
    ∙ ap is_lt (names_cmp c.self.inside c.other.inside c.self.invariant c.other.invariant)
    ∙ (λ i. is_lt (slice_cmp nat_cmp (c.self.view_is i) (c.other.view_is i)))
