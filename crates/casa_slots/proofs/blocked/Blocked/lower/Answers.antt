use Rattle.std.proofs.Common.{◌≡◌, ◌∙◌, Some, ap, sym, subst, rules}
use Rattle.casa_slots.specs.Blocked.{lowered}
use Rattle.casa_slots.specs.Sparse.{Blocks, dense, AreBlocked}
use Rattle.casa_slots.proofs.Sparse.{take_blocked, dense_lowered, lowered_past}
use Rattle.casa_slots.proofs.blocked.Blocked.lower.Goals as goal

pub invariant_of-self : goal.invariant_of-self
invariant_of-self c =
    (subst (AreBlocked 0 c.self.inside.slots) (sym c.lower_at.ensures.items) (take_blocked 0 c.self.inside.slots c.self.inside.blocks.items c.in-Some.k c.self.invariant.0), c.self.invariant.1)

pub returns-then-k-self-clause-counts : goal.returns-then-k-self-clause-counts
returns-then-k-self-clause-counts c =
    ap (dense c.self.inside.slots) c.lower_at.ensures.items
    ∙ dense_lowered c.self.inside.slots c.self.inside.blocks.items c.in-Some.k c.self.invariant.0 c.if-k-self.true
    ∙ ap (λ (b : Blocks). lowered b.counts (Some c.in-Some.k)) c.self.view_is
    ∙ ap (lowered c.args.self.now.counts) (let is : Some c.in-Some.k ≡ c.args.slot = search rules in is)

pub returns-else-k-self-clause-counts : goal.returns-else-k-self-clause-counts
returns-else-k-self-clause-counts c =
    subst (λ (b : Blocks). b.counts ≡ lowered b.counts (Some c.in-Some.k)) c.self.view_is (lowered_past c.self.inside.slots c.self.inside.blocks.items c.in-Some.k c.if-k-self.false)
    ∙ ap (lowered c.args.self.now.counts) (let is : Some c.in-Some.k ≡ c.args.slot = search rules in is)
