use Rattle.std.proofs.Common.{◌≡◌, ◌∙◌, ap, sym, true, false}
use Rattle.casa_slots.specs.Sparse.{Blocks, count_before}
use Rattle.casa_slots.proofs.Leaving.{is_one}
use Rattle.casa_slots.proofs.Sparse.{has_at, one_there, none_there}
use Rattle.casa_slots.proofs.blocked.Blocked.has_one.Goals as goal

pub returns-then-has_at : goal.returns-then-has_at
returns-then-has_at c =
    let es = c.self.inside.blocks.items in
    let k = c.args.slot in
    let at : c.count_before-at.result ≡ count_before es k = c.count_before-at.ensures.value ∙ ap (λ fs. count_before fs k) c.deref.ensures.value in
    let has : has_at es c.count_before-at.result k ≡ true = ap (λ fs. has_at fs c.count_before-at.result k) (sym c.deref-2.ensures.value) ∙ sym c.has_at.ensures ∙ c.if-has_at.true in
    one_there c.self.inside.slots es c.count_before-at.result k c.index.result.now c.self.invariant.0 at has c.index.ensures
    ∙ ap (λ (b : Blocks). is_one b.counts k) c.self.view_is

pub returns-else-has_at : goal.returns-else-has_at
returns-else-has_at c =
    let es = c.self.inside.blocks.items in
    let k = c.args.slot in
    let at : c.count_before-at.result ≡ count_before es k = c.count_before-at.ensures.value ∙ ap (λ fs. count_before fs k) c.deref.ensures.value in
    let has : has_at es c.count_before-at.result k ≡ false = ap (λ fs. has_at fs c.count_before-at.result k) (sym c.deref-2.ensures.value) ∙ sym c.has_at.ensures ∙ c.if-has_at.false in
    c.if-has_at.false
    ∙ none_there c.self.inside.slots es c.count_before-at.result k c.self.invariant.0 at has
    ∙ ap (λ (b : Blocks). is_one b.counts k) c.self.view_is
