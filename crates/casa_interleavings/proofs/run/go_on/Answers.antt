use Rattle.std.proofs.Common.{◌≡◌, [], ◌∷◌, ◌++◌, length, take, drop, map, sym, ap, subst, ◌∙◌, arith}
use Rattle.std.proofs.lemmas.List.{map-append}
use Rattle.casa_interleavings.specs.Scenes.{opening_scene, Leads}
use Rattle.casa_interleavings.specs.Rooms.{reply_after, IsRoomScene, AreOfRoom}
use Rattle.casa_interleavings.proofs.Happening.{leads_push}
use Rattle.casa_interleavings.proofs.Lists.{written_back}
use Rattle.casa_interleavings.proofs.Seats.{seated}
use Rattle.casa_interleavings.proofs.Had.{had_run}
use Rattle.casa_interleavings.proofs.run.go_on.Goals as goal

pub happen-requires-clause-seated : goal.happen-requires-clause-seated
happen-requires-clause-seated g c =
    let room = c.run.inside.room in
    let had = c.run.invariant in
    subst (λ ds. AreOfRoom g.W.World room ds) (sym c.as_mut_slice.ensures.value)
    (seated g.W.World g.W.Stamped room c.run.inside.desks.items had.1.0 had.1.2)

-- the new desks stand for the scene to which the events lead
pub invariant_of-result : goal.invariant_of-result
invariant_of-result g c =
    let world = g.W.World in
    let stamped = g.W.Stamped in
    let reply = reply_after world in
    let was = c.run.inside in
    let (enough, (m, led, stood)) = c.run.invariant in
    let e = c.args.event.now in
    let slice = c.as_mut_slice in
    let ds = c.happen.new.desks in
    let given : length slice.result.now ≡ length was.desks.items = ap (λ xs. length xs) slice.ensures.value in
    let long : length ds ≡ was.desks.len = omega (arith, c.happen.auto.desks, slice.ensures.len, given, was.desks.ok.0) in
    let back = written_back was.desks.len ds was.desks.items long in
    let before = map (λ e. e.value) was.events.items in
    let more : map (λ e. e.value) c.push.new.self.items ≡ before ++ e ∷ [] =
    ap (λ xs. map (λ e. e.value) xs) c.in_ok-push.ensures.items
    ∙ map-append (λ e. e.value) was.events.items (c.of.result ∷ []) ∙ ap (λ e. before ++ e ∷ []) c.of.ensures in
    let (n, happens, stands) = c.in_ok-happen.ensures.happens m
    (subst (λ xs. IsRoomScene world stamped was.room xs m) (sym slice.ensures.value) stood) in
    let leads = leads_push reply stamped.is_unmoved before e opening_scene m n led happens in (
      omega (arith, ap (λ xs. length xs) back, long, was.desks.ok.0, enough),
      (
        n,
        subst (λ es. Leads reply stamped.is_unmoved es opening_scene n) (sym more) leads,
        subst (λ xs. IsRoomScene world stamped c.happen.new.room xs n) (sym back) stands,
      ),
    )

pub returns-clause-run : goal.returns-clause-run
returns-clause-run g c =
    let was = c.run.inside.desks in
    let ds = c.happen.new.desks in
    had_run g.W.World g.W.Stamped c.happen.new.room (map (λ e. e.value) c.push.new.self.items)
    (take was.len (ds ++ drop (length ds) was.items)) (invariant_of-result g c)
