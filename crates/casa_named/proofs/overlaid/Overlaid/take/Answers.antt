use Rattle.std.proofs.Common.{[], ◌∙◌, sym}
use Rattle.casa_named.proofs.Merging.{value-first, both-first, change-first, change-alone}
use Rattle.casa_named.proofs.overlaid.Overlaid.take.Goals as goal

pub returns-in-None-Some : goal.returns-in-None-Some
returns-in-None-Some g c =
    rw c.as_ref.ensures.value (sym c.self.view_is
    ∙ change-alone _ _ c.self.inside.values c.self.inside.changes _ c.in-None-Some.ensures'.ordered
    c.in-None-Some.ensures.first c.in-None-Some.ensures'.first c.pass.ensures)

pub returns-in-Less : goal.returns-in-Less
returns-in-Less g c =
    let at = c.in-Some-Some in
    sym c.self.view_is
    ∙ value-first _ _ _ _ c.self.inside.values _ c.self.inside.changes [] at.ensures'.ordered at.ensures.first
    at.ensures'.first
    (sym c.in-Less.ensures) c.pass-in-Less.ensures

pub returns-in-Equal : goal.returns-in-Equal
returns-in-Equal g c =
    let at = c.in-Some-Some in
    rw c.as_ref-in-Equal.ensures.value (sym c.self.view_is
    ∙ both-first _ _ _ _ c.self.inside.values _ c.self.inside.changes _ at.ensures'.ordered at.ensures.first
    at.ensures'.first
    (sym c.in-Equal.ensures) c.pass-in-Equal.ensures c.pass-in-Equal-2.ensures)

pub returns-in-Greater : goal.returns-in-Greater
returns-in-Greater g c =
    let at = c.in-Some-Some in
    rw c.as_ref-in-Greater.ensures.value (sym c.self.view_is
    ∙ change-first _ _ _ _ c.self.inside.values [] c.self.inside.changes _ at.ensures'.ordered at.ensures.first
    at.ensures'.first
    (sym c.in-Greater.ensures) c.pass-in-Greater.ensures)
