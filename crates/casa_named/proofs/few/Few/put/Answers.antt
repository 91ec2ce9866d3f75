use Rattle.std.proofs.Common.{◌∷◌, ap, sym, ◌∙◌, subst}
use Rattle.casa_filing.specs.Text.{put}
use Rattle.casa_named.specs.Named.{ahead, held, IsFew}
use Rattle.casa_named.proofs.Ahead.{alone-few, before-put, before-few, behind-few}
use Rattle.casa_named.proofs.few.Few.put.Goals as goal

pub invariant_of-self : goal.invariant_of-self
invariant_of-self g c =
    alone-few c.args.name c.args.value (held c.self.inside.others) (c.self.invariant.alone (sym c.take.ensures.value ∙ c.in_default.is))

pub invariant_of-self-in-Ok : goal.invariant_of-self-in-Ok
invariant_of-self-in-Ok g c =
    let few = subst (λ f. IsFew f (held c.self.inside.others)) (sym c.in-Some.ensures.value) c.self.invariant in
    before-few c.in-Some.first c.in-Some.held (held c.self.inside.others) few c.args.name c.args.value _
    (sym c.in-Less.ensures) c.in-Ok.ensures.put

pub invariant_of-self-in-Greater : goal.invariant_of-self-in-Greater
invariant_of-self-in-Greater g c =
    let few = subst (λ f. IsFew f (held c.self.inside.others)) (sym c.in-Some.ensures.value) c.self.invariant in
    behind-few c.in-Some.first c.in-Some.held (held c.self.inside.others) few c.args.name c.args.value _
    (sym c.in-Greater.ensures) c.in_ok-put-in-Greater.ensures.put

pub returns-in-Ok-clause-put : goal.returns-in-Ok-clause-put
returns-in-Ok-clause-put g c =
    let others = held c.self.inside.others in
    let is = sym c.in-Some.ensures.value in
    let few = subst (λ f. IsFew f others) is c.self.invariant in
    ap (λ es. (c.args.name, c.args.value) ∷ es) c.in-Ok.ensures.put
    ∙ before-put c.in-Some.first c.in-Some.held others few c.args.name c.args.value (sym c.in-Less.ensures)
    ∙ ap (λ es. put es c.args.name c.args.value) (sym (ap (λ f. ahead f others) is) ∙ c.self.view_is)
