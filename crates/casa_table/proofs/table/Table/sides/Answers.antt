use Rattle.std.proofs.Common.{sym, ◌∙◌}
use Rattle.casa_table.proofs.Sealed.{same_sealed}
use Rattle.casa_table.proofs.table.Table.sides.Goals as goal

pub returns-clause-alike : goal.returns-clause-alike
returns-clause-alike g c =
    λ alike.
    let same = same_sealed g.V.Version.numbers g.V.Version.told_apart _ _ _ _ (c.same_seal.ensures.0 alike)
    c.self.invariant.3 c.shared.invariant.2 in
    c.values.ensures ∙ c.deref.ensures ∙ same ∙ sym c.deref-3.ensures ∙ sym c.values-2.ensures
