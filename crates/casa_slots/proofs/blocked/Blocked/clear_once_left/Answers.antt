use Rattle.std.proofs.Common.{◌≡◌, ◌∙◌, true, ap, sym, subst, ◌<◌, IfSome}
use Rattle.std.proofs.lemmas.Bool.{both_ways}
use Rattle.casa_slots.specs.Blocked.{lowered}
use Rattle.casa_slots.specs.Walk.{clear_from}
use Rattle.casa_slots.proofs.Leaving.{ComesTo, is_one, sooner, stays}
use Rattle.casa_slots.proofs.blocked.Blocked.clear_once_left.Goals as goal
use Rattle.casa_slots.proofs.blocked.Blocked.clear_once_left.Goals.{else-is_sooner-via-then-is_sooner+else-has_one, else-is_sooner-via-else-is_sooner}

pub returns-then-has_one : goal.returns-then-has_one
returns-then-has_one c =
    let bs = c.args.self.now.counts in
    let k = c.in-Some.slot in
    let comes = c.is_sooner.ensures.0 c.if-is_sooner.true in
    sooner bs k c.args.k (comes.0, subst (λ o. IfSome o (λ i. k < i)) c.clear_from-clear.ensures.value comes.1) (sym c.has_one.ensures ∙ c.if-has_one.true)
    ∙ ap (λ left. clear_from (lowered bs left) c.args.k) (sym c.in-Some.is)

pub returns-else-is_sooner : goal.returns-else-is_sooner
returns-else-is_sooner c =
    let bs = c.args.self.now.counts in
    let k = c.in-Some.slot in
    let not_so : ComesTo bs k c.args.k → is_one bs k ≡ true → ⊥ =
    λ comes one. elim c.else-is_sooner.branch [
      | else-is_sooner-via-then-is_sooner+else-has_one w ↦ both_ways _ w.if-has_one.false (w.has_one.ensures ∙ one)
      | else-is_sooner-via-else-is_sooner w ↦ both_ways _ w.if-is_sooner.false (c.is_sooner.ensures.1 (comes.0, subst (λ o. IfSome o (λ i. k < i)) (sym c.clear_from-clear.ensures.value) comes.1))
    ] in
    c.clear_from-clear.ensures.value ∙ stays bs k c.args.k not_so ∙ ap (λ left. clear_from (lowered bs left) c.args.k) (sym c.in-Some.is)
