use Rattle.std.proofs.Common.{◌∙◌}
use Rattle.std.specs.Ordering.{nat_cmp}
use Rattle.std.specs.Cmp.Lexicographic.{slice_cmp}
use Rattle.casa_filing.proofs.Numbers.{names_cmp}
use Rattle.casa_filing.proofs.name.NameOrd.cmp.Goals as goal

pub returns : goal.returns
returns g c =
    c.order.ensures
    ∙ names_cmp c.self.inside c.other.inside c.self.invariant c.other.invariant
    ∙ (λ i. slice_cmp nat_cmp (c.self.view_is i) (c.other.view_is i))
