use Rattle.std.proofs.Common.{◌∙◌, ap, sym}
use Rattle.std.specs.Option.{option_or}
use Rattle.casa_filing.specs.Text.{at_name}
use Rattle.casa_table.proofs.Layers.{kept-next, kept-none}
use Rattle.casa_table.proofs.table.keep_others.Goals as goal

pub loop-name-preserved : goal.loop-name-preserved
loop-name-preserved g c = (
  c.keep.ensures.ordered c.loop-name.invariant.0,
  λ q. ap (λ a. option_or a (at_name c.next.new.self q)) (c.in_ok-keep.ensures.kept q)
      ∙ kept-next q c.in-Some.name.now c.in-Some.change.now (at_name c.loop-name.changes.entries q) c.next.new.self
      ∙ ap (λ es. option_or (at_name c.loop-name.changes.entries q) (at_name es q)) (sym c.in-Some.ensures.steps)
      ∙ c.loop-name.invariant.1 q,
)

pub returns-clause-kept : goal.returns-clause-kept
returns-clause-kept g c =
    λ q. kept-none _ _
    (ap (λ es. option_or (at_name c.loop-name.changes.entries q) (at_name es q)) (sym c.in-None.ensures.steps.0)
    ∙ c.loop-name.invariant.1 q)
