use Rattle.std.proofs.Common.{◌≡◌, map, length, sym, subst, refl, arith}
use Rattle.casa_interleavings.specs.Scenes.{opening_scene, most_workers}
use Rattle.casa_interleavings.specs.Rooms.{HasHad}
use Rattle.casa_interleavings.proofs.Had.{had_run}
use Rattle.casa_interleavings.proofs.run.begin.Goals as goal

pub invariant_of-result : goal.invariant_of-result
invariant_of-result g c =
    let desks = c.in_ok-desks.desks in
    let all : length desks.items ≡ most_workers = omega (arith, c.in_ok-desks.ensures.all, desks.ok.0) in
    subst (λ es. HasHad g.W.World g.W.Stamped (map (λ e. e.value) es) c.open_desks.new.room desks.items)
    (sym c.new.ensures.items)
    (all, (opening_scene, refl, c.in_ok-desks.ensures.scene))

pub returns-clause-run : goal.returns-clause-run
returns-clause-run g c =
    had_run g.W.World g.W.Stamped c.open_desks.new.room (map (λ e. e.value) c.new.result.items) c.in_ok-desks.desks.items
    (invariant_of-result g c)
