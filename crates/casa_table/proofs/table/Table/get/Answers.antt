use Rattle.std.proofs.Common.{sym, ap, ◌∙◌}
use Rattle.std.specs.Arc.{arc_value}
use Rattle.casa_filing.specs.Text.{at_name}
use Rattle.casa_table.proofs.Layers.{sorted-layers, found-change, found-below}
use Rattle.casa_table.proofs.table.Table.get.Goals as goal

pub returns-in-Some-clause-value : goal.returns-in-Some-clause-value
returns-in-Some-clause-value g c =
    let ws = (arc_value c.self.inside.recent).entries in
    let es = arc_value c.self.inside.base in
    let there = c.in-Some.ensures.value ∙ ap (λ m. at_name m.entries c.args.name.now) c.deref.ensures in
    c.as_ref.ensures.value
    ∙ found-change ws es c.args.self.now.entries (ap (λ t. t.entries) c.self.view_is) c.self.invariant.0
    c.self.invariant.1 c.args.name.now c.in-Some.change.now (sym there)

pub returns-in-Some-clause-ordered : goal.returns-in-Some-clause-ordered
returns-in-Some-clause-ordered g c =
    let ws = (arc_value c.self.inside.recent).entries in
    let es = arc_value c.self.inside.base in
    sorted-layers ws es c.args.self.now.entries (ap (λ t. t.entries) c.self.view_is) c.self.invariant.0

pub returns-in-None-clause-value : goal.returns-in-None-clause-value
returns-in-None-clause-value g c =
    let ws = (arc_value c.self.inside.recent).entries in
    let es = arc_value c.self.inside.base in
    let none = c.in-None.ensures.value ∙ ap (λ m. at_name m.entries c.args.name.now) c.deref.ensures in
    c.get-in-None.ensures.value ∙ ap (λ b. at_name b c.args.name.now) c.deref-in-None.ensures
    ∙ found-below ws es c.args.self.now.entries (ap (λ t. t.entries) c.self.view_is) c.self.invariant.0
    c.self.invariant.1 c.args.name.now (sym none)

pub returns-in-None-clause-ordered : goal.returns-in-None-clause-ordered
returns-in-None-clause-ordered g c =
    let ws = (arc_value c.self.inside.recent).entries in
    let es = arc_value c.self.inside.base in
    sorted-layers ws es c.args.self.now.entries (ap (λ t. t.entries) c.self.view_is) c.self.invariant.0
