use Rattle.std.proofs.Common.{◌≡◌, ◌∙◌, ◌<◌, ◌≤◌, Some, length, ap, sym, subst, sum, rules, arith}
use Rattle.std.specs.List.{AllByRecursion}
use Rattle.std.below.core.specs.declared.int.usize.TheConstants.{MAX}
use Rattle.casa_slots.specs.Blocked.{raised}
use Rattle.casa_slots.specs.Sparse.{Blocks, dense, AreBlocked}
use Rattle.casa_slots.proofs.Sparse.{small_at, blocks_sum, put_blocked, dense_raised, raised_past}
use Rattle.casa_slots.proofs.blocked.Blocked.raise.Goals as goal

pub raise_at-requires-clause-few : goal.raise_at-requires-clause-few
raise_at-requires-clause-few c =
    small_at MAX c.self.inside.slots c.self.inside.blocks.items c.in-Some.k
    (subst (λ (b : Blocks). AllByRecursion (λ n. n < MAX) b.counts) (sym c.self.view_is) c.requires.few) c.if-k-self.true

pub raise_at-requires-clause-room : goal.raise_at-requires-clause-room
raise_at-requires-clause-room c =
    let few : length c.self.inside.blocks.items ≤ sum (dense c.self.inside.slots c.self.inside.blocks.items) = blocks_sum c.self.inside.slots c.self.inside.blocks.items c.self.invariant.0 in
    let room = subst (λ (b : Blocks). sum b.counts < b.room) (sym c.self.view_is) c.requires.room in
    search (rules, few, room)

pub invariant_of-self : goal.invariant_of-self
invariant_of-self c =
    let under : c.in-Some.k < c.self.inside.slots = c.if-k-self.true in
    (subst (AreBlocked 0 c.self.inside.slots) (sym c.raise_at.ensures.items) (put_blocked 0 c.self.inside.slots c.self.inside.blocks.items c.in-Some.k (omega arith) under c.self.invariant.0), c.self.invariant.1)

pub returns-then-k-self-clause-counts : goal.returns-then-k-self-clause-counts
returns-then-k-self-clause-counts c =
    ap (dense c.self.inside.slots) c.raise_at.ensures.items
    ∙ dense_raised c.self.inside.slots c.self.inside.blocks.items c.in-Some.k c.self.invariant.0 c.if-k-self.true
    ∙ ap (λ (b : Blocks). raised b.counts (Some c.in-Some.k)) c.self.view_is
    ∙ ap (raised c.args.self.now.counts) (let is : Some c.in-Some.k ≡ c.args.slot = search rules in is)

pub returns-else-k-self-clause-counts : goal.returns-else-k-self-clause-counts
returns-else-k-self-clause-counts c =
    subst (λ (b : Blocks). b.counts ≡ raised b.counts (Some c.in-Some.k)) c.self.view_is (raised_past c.self.inside.slots c.self.inside.blocks.items c.in-Some.k c.if-k-self.false)
    ∙ ap (raised c.args.self.now.counts) (let is : Some c.in-Some.k ≡ c.args.slot = search rules in is)
