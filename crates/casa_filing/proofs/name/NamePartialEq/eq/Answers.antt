use Rattle.std.proofs.Common.{◌∙◌, nat_eq}
use Rattle.std.specs.Cmp.Lexicographic.{pointwise}
use Rattle.casa_filing.proofs.Numbers.{names_eq}
use Rattle.casa_filing.proofs.name.NamePartialEq.eq.Goals as goal

pub returns : goal.returns
returns g c =
    c.are_same.ensures
    ∙ names_eq c.self.inside c.other.inside c.self.invariant c.other.invariant
    ∙ (λ i. pointwise nat_eq (c.self.view_is i) (c.other.view_is i))
