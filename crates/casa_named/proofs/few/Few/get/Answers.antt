use Rattle.std.proofs.Common.{ap, sym, ◌∙◌}
use Rattle.casa_filing.specs.Text.{at_name}
use Rattle.casa_named.specs.Named.{ahead, held}
use Rattle.casa_named.proofs.Ahead.{found, not_first}
use Rattle.casa_named.proofs.few.Few.get.Goals as goal

pub returns-then-eq-clause-value : goal.returns-then-eq-clause-value
returns-then-eq-clause-value g c =
    let others = held c.self.inside.others in
    found c.in-Some.first c.in-Some.value others c.args.name.now (sym c.if-eq.ensures)
    ∙ ap (λ es. at_name es c.args.name.now) (sym (ap (λ f. ahead f others) c.in-Some.is) ∙ c.self.view_is)

pub returns-else-eq-clause-value : goal.returns-else-eq-clause-value
returns-else-eq-clause-value g c =
    let others = held c.self.inside.others in
    c.get.ensures ∙ not_first c.in-Some.first c.in-Some.value others c.args.name.now (sym c.if-eq.ensures)
    ∙ ap (λ es. at_name es c.args.name.now) (sym (ap (λ f. ahead f others) c.in-Some.is) ∙ c.self.view_is)
