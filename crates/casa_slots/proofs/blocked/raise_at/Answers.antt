use Rattle.std.proofs.Common.{◌≡◌, ◌∙◌, ◌+◌, ◌<◌, ◌≤◌, length, ap, sym, true, false, rules, arith}
use Rattle.std.specs.List.{insert}
use Rattle.casa_slots.proofs.Sparse.{has_at, has_within, before_within, count_found, put_found, put_missed}
use Rattle.casa_slots.proofs.blocked.raise_at.Goals as goal

pub index-requires : goal.index-requires
index-requires c =
    let has : has_at c.deref.result.now c.args.at c.args.slot ≡ true = sym c.has_at.ensures ∙ c.if-has_at.true in
    let within : c.args.at < length c.deref.result.now = has_within c.deref.result.now c.args.at c.args.slot has in
    search rules

pub overflow_add-count : goal.overflow_add-count
overflow_add-count c =
    let has : has_at c.args.blocks.now.items c.args.at c.args.slot ≡ true = ap (λ es. has_at es c.args.at c.args.slot) (sym c.deref.ensures.value) ∙ sym c.has_at.ensures ∙ c.if-has_at.true in
    let is = count_found c.args.blocks.now.items c.args.at c.args.slot c.index.result.now c.requires.at has c.index.ensures in
    omega (arith, is, c.requires.few)

pub index_mut-requires : goal.index_mut-requires
index_mut-requires c =
    let has : has_at c.deref.result.now c.args.at c.args.slot ≡ true = sym c.has_at.ensures ∙ c.if-has_at.true in
    let within : c.args.at < length c.deref.result.now = has_within c.deref.result.now c.args.at c.args.slot has in
    search rules

pub insert-requires : goal.insert-requires
insert-requires c =
    let within : c.args.at ≤ length c.args.blocks.now.items = rw c.requires.at (before_within c.args.blocks.now.items c.args.slot) in
    search rules

pub returns-then-has_at-clause-items : goal.returns-then-has_at-clause-items
returns-then-has_at-clause-items c =
    let has : has_at c.args.blocks.now.items c.args.at c.args.slot ≡ true = ap (λ es. has_at es c.args.at c.args.slot) (sym c.deref.ensures.value) ∙ sym c.has_at.ensures ∙ c.if-has_at.true in
    let is = count_found c.args.blocks.now.items c.args.at c.args.slot c.index.result.now c.requires.at has c.index.ensures in
    put_found c.args.blocks.now.items c.args.at c.args.slot _ c.requires.at has (ap (λ n. n + 1) is)

pub returns-else-has_at-clause-items : goal.returns-else-has_at-clause-items
returns-else-has_at-clause-items c =
    let has : has_at c.args.blocks.now.items c.args.at c.args.slot ≡ false = ap (λ es. has_at es c.args.at c.args.slot) (sym c.deref.ensures.value) ∙ sym c.has_at.ensures ∙ c.if-has_at.false in
    let put : c.insert.new.self.items ≡ insert c.args.blocks.now.items c.args.at (c.args.slot, 1) = search rules in
    put ∙ put_missed c.args.blocks.now.items c.args.at c.args.slot c.requires.at has
