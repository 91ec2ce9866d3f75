use Rattle.std.proofs.Common.{◌∙◌, ℕ, List, Bor, Some, sym, ap}
use Rattle.casa_filing.specs.Text.{Text}
use Rattle.casa_cli.proofs.Located.{located_more, unlocated_at}
use Rattle.casa_cli.proofs.imports.all_named.Goals as goal

pub returns-in-None : goal.returns-in-None
returns-in-None c =
    sym (unlocated_at (λ (part : Bor (List ℕ)). part.now) c.args.parts.now c.loop-part.part-index _ c.loop-part-test.true c.in-None.ensures)

pub loop-part-preserved : goal.loop-part-preserved
loop-part-preserved c =
    located_more (λ (part : Bor (List ℕ)). part.now) c.args.parts.now c.loop-part.part-index _ c.loop-part-test.true
    c.loop-part.locations.items c.in-Some.location c.loop-part.invariant c.in-Some.ensures
    ∙ ap (λ (locations : List Text). Some locations) (sym c.in_ok-push-in-Some.ensures.items)
