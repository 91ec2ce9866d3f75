use Rattle.std.proofs.Common.{◌∷◌, ap, sym, ◌∙◌, subst}
use Rattle.casa_filing.specs.Text.{at_name, without}
use Rattle.casa_named.specs.Named.{ahead, held, IsFew}
use Rattle.casa_named.proofs.Ahead.{found, not_first, first-left, other-left, other-few, first-few}
use Rattle.casa_named.proofs.few.Few.take.Goals as goal

pub invariant_of-self-then-eq : goal.invariant_of-self-then-eq
invariant_of-self-then-eq g c =
    let few = subst (λ f. IsFew f (held c.self.inside.others)) (sym c.in_ok-first.ensures.value) c.self.invariant in
    first-few c.in_ok-first.first c.in_ok-first.value (held c.self.inside.others) few c.args.name.now _ _
    c.pop_first.ensures.first c.pop_first.ensures.alone

pub invariant_of-self-else-eq : goal.invariant_of-self-else-eq
invariant_of-self-else-eq g c =
    let few = subst (λ f. IsFew f (held c.self.inside.others)) (sym c.in_ok-first.ensures.value) c.self.invariant in
    other-few c.in_ok-first.first c.in_ok-first.value (held c.self.inside.others) few c.args.name.now _
    (sym c.if-eq.ensures) c.take-else-eq.ensures.left

pub returns-then-eq-clause-value : goal.returns-then-eq-clause-value
returns-then-eq-clause-value g c =
    let others = held c.self.inside.others in
    found c.in_ok-first.first c.in_ok-first.value others c.args.name.now (sym c.if-eq.ensures)
    ∙ ap (λ es. at_name es c.args.name.now)
    (sym (ap (λ f. ahead f others) (sym c.in_ok-first.ensures.value)) ∙ c.self.view_is)

pub returns-then-eq-clause-left : goal.returns-then-eq-clause-left
returns-then-eq-clause-left g c =
    let others = held c.self.inside.others in
    c.pop_first.ensures.first
    ∙ first-left c.in_ok-first.first c.in_ok-first.value others c.args.name.now (sym c.if-eq.ensures)
    ∙ ap (λ es. without es c.args.name.now)
    (sym (ap (λ f. ahead f others) (sym c.in_ok-first.ensures.value)) ∙ c.self.view_is)

pub returns-else-eq-clause-value : goal.returns-else-eq-clause-value
returns-else-eq-clause-value g c =
    let others = held c.self.inside.others in
    c.take-else-eq.ensures.value
    ∙ not_first c.in_ok-first.first c.in_ok-first.value others c.args.name.now (sym c.if-eq.ensures)
    ∙ ap (λ es. at_name es c.args.name.now)
    (sym (ap (λ f. ahead f others) (sym c.in_ok-first.ensures.value)) ∙ c.self.view_is)

pub returns-else-eq-clause-left : goal.returns-else-eq-clause-left
returns-else-eq-clause-left g c =
    let others = held c.self.inside.others in
    ap (λ es. (c.in_ok-first.first, c.in_ok-first.value) ∷ es) c.take-else-eq.ensures.left
    ∙ other-left c.in_ok-first.first c.in_ok-first.value others c.args.name.now (sym c.if-eq.ensures)
    ∙ ap (λ es. without es c.args.name.now)
    (sym (ap (λ f. ahead f others) (sym c.in_ok-first.ensures.value)) ∙ c.self.view_is)
