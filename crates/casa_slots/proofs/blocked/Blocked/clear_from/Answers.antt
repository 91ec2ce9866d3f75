use Rattle.std.proofs.Common.{◌∙◌, ◌<◌, ap, arith}
use Rattle.casa_slots.specs.Sparse.{Blocks}
use Rattle.casa_slots.specs.Walk.{clear_from}
use Rattle.casa_slots.proofs.Sparse.{clear_told, clear_past}
use Rattle.casa_slots.proofs.blocked.Blocked.clear_from.Goals as goal

pub returns-then-k-self-clause-value : goal.returns-then-k-self-clause-value
returns-then-k-self-clause-value c =
    clear_past c.self.inside.slots c.self.inside.blocks.items c.args.k c.if-k-self.true ∙ ap (λ (b : Blocks). clear_from b.counts c.args.k) c.self.view_is

pub returns-clause-value : goal.returns-clause-value
returns-clause-value c =
    let under : c.args.k < c.self.inside.slots = c.if-k-self.false in
    c.then_some.ensures
    ∙ clear_told c.self.inside.slots c.passed-slot.result c.self.inside.blocks.items c.deref.result.now c.args.k c.self.invariant.0 (omega (arith, under)) c.deref.ensures.value c.passed-slot.ensures
    ∙ ap (λ (b : Blocks). clear_from b.counts c.args.k) c.self.view_is
