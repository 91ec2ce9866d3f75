use Rattle.std.proofs.Common.{◌≡◌, ◌∷◌, [], drop, ◌+◌, sym, ap, ◌∙◌, subst}
use Rattle.std.proofs.lemmas.List.{drop_more, drop_all}
use Rattle.casa_filing.specs.declared.plan.Crossing.{Crossing}
use Rattle.casa_table.specs.Passing.{passing, passings_at, HaveVia}
use Rattle.casa_table.proofs.flights.add_passings.Goals as goal

pub loop-crossing-preserved : goal.loop-crossing-preserved
loop-crossing-preserved c =
    let i = c.loop-crossing.crossing-index in
    let it : Crossing = c.crossing-item.result in
    let next : drop i c.args.via.now ≡ it ∷ drop (i + 1) c.args.via.now =
    drop_more c.args.via.now i it c.loop-crossing-test.true
    ∙ ap (λ (x : Crossing). x ∷ drop (i + 1) c.args.via.now) (sym c.crossing-item.is) in (
      λ loc p h. c.add_passing.ensures.stays loc p (c.loop-crossing.invariant.0 loc p h),
      λ ps more rest. c.loop-crossing.invariant.1 ps (λ loc p h. more loc p (c.add_passing.ensures.stays loc p h))
          (subst (HaveVia ps c.args.key) (sym next)
          (more it.loc (passing c.args.key it) c.in_ok-add_passing.ensures.added, rest)),
    )

pub returns-in_err-add_passing-clause-stays : goal.returns-in_err-add_passing-clause-stays
returns-in_err-add_passing-clause-stays c = λ loc p h. c.add_passing.ensures.stays loc p (c.loop-crossing.invariant.0 loc p h)

pub returns-clause-added : goal.returns-clause-added
returns-clause-added c =
    let none : drop c.loop-crossing.crossing-index c.args.via.now ≡ [] =
    drop_all c.loop-crossing.crossing-index c.args.via.now c.loop-crossing-test.false in
    c.loop-crossing.invariant.1 (passings_at c.loop-crossing.passings.entries) (λ loc p h. h)
    (subst (HaveVia (passings_at c.loop-crossing.passings.entries) c.args.key) (sym none) tt)
