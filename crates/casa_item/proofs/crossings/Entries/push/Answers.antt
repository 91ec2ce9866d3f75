use Rattle.std.proofs.Common.{◌≡◌, List, ℕ, [], ◌∷◌, ◌++◌, None, Option, sym, ap, ◌∙◌, unwrap_or}
use Rattle.casa_filing.specs.Text.{Text}
use Rattle.casa_item.proofs.Row.{one_moved}
use Rattle.casa_item.proofs.crossings.Entries.push.Goals as goal
use Rattle.casa_item.proofs.crossings.Entries.push.Goals.{in-Some+in_ok-push, in_default}

pub returns : goal.returns
returns c =
    let alone = c.self.inside.alone in
    let others = c.self.inside.all.items in
    let e : Text × ℕ = (c.args.id, c.args.eto) in
    let moved : c.match-take.self-inside.all.items ≡ c.args.self.now =
    elim c.match-take.branch [
      | in-Some+in_ok-push w ↦
          ap (λ s. s.all.items) w.self-inside-is ∙ w.in_ok-push.ensures.items
          ∙ one_moved alone others w.in-Some.one w.index-one-0.result c.self.invariant (sym c.take.ensures.value ∙ w.in-Some.is)
          ∙ c.self.view_is
      | in_default w ↦
          ap (λ s. s.all.items) w.self-inside-is
          ∙ ap (λ (o : Option (List (Text × ℕ))). unwrap_or o others) (sym (sym c.take.ensures.value ∙ w.in_default.is))
          ∙ c.self.view_is
    ] in
    let left : c.match-take.self-inside.alone ≡ None =
    elim c.match-take.branch [
      | in-Some+in_ok-push w ↦ ap (λ s. s.alone) w.self-inside-is ∙ c.take.ensures.after
      | in_default w ↦ ap (λ s. s.alone) w.self-inside-is ∙ c.take.ensures.after
    ] in
    ap (λ (o : Option (List (Text × ℕ))). unwrap_or o c.push-2.new.self.items) left
    ∙ c.in_ok-push-2.ensures.items ∙ ap (λ es. es ++ e ∷ []) moved
