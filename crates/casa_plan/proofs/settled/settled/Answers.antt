use Rattle.std.proofs.Common.{rules, ◌≡◌, ◌∷◌, List, [], sym, ap, subst, ◌∙◌}
use Rattle.std.specs.Map.Iter.{deref_pair}
use Rattle.std.proofs.lemmas.Map.Iter.{rest_all, rest_more}
use Rattle.casa_filing.specs.Text.{Text}
use Rattle.casa_flight.specs.Good.{AreInOrder}
use Rattle.casa_plan_spec.specs.Sight.{Sight, Stand, Written}
use Rattle.casa_plan.specs.WholeLists.{SayTheSame, HasWholeLists}
use Rattle.casa_plan.proofs.WholeLists.{settled_each, settled, settled_same, settled_whole}
use Rattle.casa_plan.proofs.settled.settled.Goals as goal

pub loop-id-preserved : goal.loop-id-preserved
loop-id-preserved g c =
    let v : Sight = c.args.view.now in
    let rest : List (Text × Stand) = c.next.new.self in
    let here : c.loop-id.id-iterator ≡ (c.in-Some.id.now, c.in-Some.stand.now) ∷ rest =
    rest_more deref_pair _ _ _ (c.in-Some.id, c.in-Some.stand) c.in-Some.is c.next.ensures.steps in (
      tt,
      tt,
      ap (λ (w : Written). settled_each v w rest) c.in_ok-settle.ensures
          ∙ sym (ap (settled_each v c.loop-id.settled) here)
          ∙ c.loop-id.invariant.2,
    )

pub returns : goal.returns
returns g c =
    let v : Sight = c.args.view.now in
    let change : Written = c.args.change in
    let stands : c.take_stands-stands.result ≡ change.stands = c.take_stands-stands.ensures.stands in
    let over : c.into_iter-id-iterator.result ≡ c.take_stands-stands.result = search rules in
    let none_left : c.loop-id.id-iterator ≡ [] = rest_all deref_pair _ _ _ c.in-None.is c.next.ensures.steps in
    let ordered : AreInOrder change.stands = subst (λ es. AreInOrder es) stands c.iter-id-items.ensures.ordered in
    let is : c.loop-id.settled ≡ settled v change =
    sym (ap (settled_each v c.loop-id.settled) none_left)
    ∙ c.loop-id.invariant.2
    ∙ (λ i. settled_each v (c.take_stands-stands.ensures.left i) ((over ∙ stands) i)) in
    record {
      same = subst (λ (w : Written). SayTheSame v w change) (sym is) (settled_same v change ordered);
      whole = subst (HasWholeLists v) (sym is) (settled_whole v change ordered);
    }
