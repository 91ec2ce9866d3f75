use Rattle.std.proofs.Common.{◌≡◌, ◌+◌, ◌||◌, ◌++◌, ◌∷◌, [], List, ℕ, is_some, subst, sym, ap, ◌∙◌, take}
use Rattle.std.proofs.lemmas.List.{take_more, take_all}
use Rattle.casa_filing.specs.Text.{Text, at_name}
use Rattle.casa_view.specs.Taking.{Sees}
use Rattle.casa_view.proofs.Noted.{sees_same, some-push}
use Rattle.casa_view.proofs.items.Items.see_lists.Goals as goal

pub loop-id-preserved : goal.loop-id-preserved
loop-id-preserved g c = λ t h.
    let items : List (Text × ℕ) = c.as_slice-id-items.result.now in
    let past = take c.loop-id.id-index items in
    let item : Text × ℕ = c.loop-id-item.result in
    let more : take (c.loop-id.id-index + 1) items ≡ past ++ item ∷ [] =
    take_more items c.loop-id.id-index item c.loop-id-test.true ∙ ap (λ (e : Text × ℕ). past ++ e ∷ []) (sym c.loop-id-item.is) in
    sees_same c.args.self.now.lists.entries _ _ _
    (λ q. some-push past item q (t q) ∙ ap (λ es. is_some (at_name es q) || t q) (sym more))
    (c.in_ok-see_list.ensures (λ q. is_some (at_name past q) || t q) (c.loop-id.invariant t h))

pub returns : goal.returns
returns g c = λ t h.
    let items : List (Text × ℕ) = c.as_slice-id-items.result.now in
    let whole : take c.loop-id.id-index items ≡ c.args.ids.now =
    take_all c.loop-id.id-index items c.loop-id-test.false ∙ c.as_slice-id-items.ensures.crossings in
    subst (λ (es : List (Text × ℕ)). Sees c.args.self.now.lists.entries (λ q. is_some (at_name es q) || t q) c.loop-id.noted) whole
    (c.loop-id.invariant t h)
