use Rattle.std.proofs.Common.{◌≤◌, ◌++◌, List, length, sym, ◌∙◌, ap, subst, arith}
use Rattle.std.specs.Prelude.{◌⊎◌}
use Rattle.std.proofs.lemmas.List.{append_assoc}
use Rattle.std.proofs.lemmas.Grind.{common_steps}
use mathlib.Core.List.{IsPrefix}
use Rattle.casa_kept.proofs.Standing.{shorter_begins}
use Rattle.casa_keeper.proofs.shared.SharedJournal.sync.Goals as goal

begins_more : {X : Type 0} → (xs ys zs : List X) → IsPrefix xs ys → IsPrefix ys zs → IsPrefix xs zs
begins_more xs ys zs p q = subst (IsPrefix xs) q.1 (p.0 ++ q.0, sym (append_assoc xs p.0 q.0) ∙ ap (λ w. w ++ q.0) p.1)

pub returns : goal.returns
returns g c =
    let seen = c.see-needed.new.front in
    let synced = c.in_ok-synced.synced.front in
    let long : length seen ≤ length synced = grind (arith, common_steps) in
    let begins = shorter_begins seen synced (subst (λ x. IsPrefix seen x ⊎ IsPrefix x seen) c.front.ensures c.agrees.ensures) long in
    begins_more c.args.front.now seen synced (subst (λ x. IsPrefix x seen) c.again-seen.ensures c.see-needed.ensures.longer) begins
