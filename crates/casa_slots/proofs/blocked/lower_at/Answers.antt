use Rattle.std.proofs.Common.{◌≡◌, ◌∙◌, ◌-◌, ap, sym, true, false, rules}
use Rattle.casa_slots.proofs.Sparse.{has_at, count_found, last_found, more_found, none_found}
use Rattle.casa_slots.proofs.blocked.lower_at.Goals as goal

pub returns-then-count-eq1-clause-items : goal.returns-then-count-eq1-clause-items
returns-then-count-eq1-clause-items c =
    let has : has_at c.args.blocks.now.items c.args.at c.args.slot ≡ true = ap (λ es. has_at es c.args.at c.args.slot) (sym c.deref.ensures.value) ∙ sym c.has_at.ensures ∙ c.if-has_at.true in
    let is = count_found c.args.blocks.now.items c.args.at c.args.slot c.index.result.now c.requires.at has c.index.ensures in
    let one : c.index.result.now.1 ≡ 1 = search rules in
    c.remove.ensures.items ∙ last_found c.args.blocks.now.items c.args.at c.args.slot c.requires.at has (sym is ∙ one)

pub returns-else-count-eq1-clause-items : goal.returns-else-count-eq1-clause-items
returns-else-count-eq1-clause-items c =
    let has : has_at c.args.blocks.now.items c.args.at c.args.slot ≡ true = ap (λ es. has_at es c.args.at c.args.slot) (sym c.deref.ensures.value) ∙ sym c.has_at.ensures ∙ c.if-has_at.true in
    let is = count_found c.args.blocks.now.items c.args.at c.args.slot c.index.result.now c.requires.at has c.index.ensures in
    let more : c.index.result.now.1 ≡ 1 → ⊥ = search rules in
    let less : c.saturating_sub.result ≡ c.index.result.now.1 - 1 = search rules in
    more_found c.args.blocks.now.items c.args.at c.args.slot _ c.requires.at has (λ one. more (is ∙ one)) (less ∙ ap (λ n. n - 1) is)

pub returns-else-has_at-clause-items : goal.returns-else-has_at-clause-items
returns-else-has_at-clause-items c =
    let has : has_at c.args.blocks.now.items c.args.at c.args.slot ≡ false = ap (λ es. has_at es c.args.at c.args.slot) (sym c.deref.ensures.value) ∙ sym c.has_at.ensures ∙ c.if-has_at.false in
    none_found c.args.blocks.now.items c.args.at c.args.slot c.requires.at has
