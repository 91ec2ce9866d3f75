use Rattle.std.proofs.Common.{sym, ap, ◌∙◌}
use Rattle.casa_shelf.specs.Positions.{same_numbers}
use Rattle.casa_shelf.proofs.shelf.Shelved.same_position.Goals as goal

-- src/shelf.rt:64:5
pub returns-then-index-clause-shows : goal.returns-then-index-clause-shows
returns-then-index-clause-shows g c =
    λ _.
    let ours = ap (λ m. m.2) c.self.view_is in
    let theirs = ap (λ m. m.2) c.other.view_is in
    let alike = sym c.self.invariant.2 ∙ ap (λ t. t.numbers) c.agrees.ensures ∙ c.other.invariant.2 in
    sym ours ∙ same_numbers _ _ alike ∙ theirs
