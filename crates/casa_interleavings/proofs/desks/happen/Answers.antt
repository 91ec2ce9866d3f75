use Rattle.std.proofs.Common.{◌≡◌, ◌<◌, ◌≤◌, ℕ, Some, length, get_or, sym, subst, ◌∙◌, arith, rules}
use Rattle.std.specs.Prelude.{slice_get}
use Rattle.std.proofs.lemmas.Option.{slice_get-get_or}
use Rattle.casa_interleavings.specs.Scenes.{worker_of, most_workers}
use Rattle.casa_interleavings.specs.Rooms.{reply_after, IsRoomWorker}
use Rattle.casa_interleavings.proofs.Happening.{beyond}
use Rattle.casa_interleavings.proofs.Seats.{IsTurn, scene_turn}
use Rattle.casa_interleavings.proofs.desks.happen.Goals as goal

pub returns : goal.returns
returns g c = record {
  happens = λ m scene.
      let world = g.W.World in
      let stamped = g.W.Stamped in
      let room = c.args.room.now in
      let room' = c.act.new.room in
      let ds = c.args.desks.now in
      let at = c.worker-at.result in
      let d = get_or ds at c.index-desks-at.result in
      let d' = c.act.new.desk in
      let within : at < length ds = search rules in
      let here : slice_get ds at ≡ Some d = slice_get-get_or ds at c.index-desks-at.result within in
      let is : at ≡ worker_of c.args.event.now = c.worker-at.ensures in
      let en = c.in_ok-act.ensures in
      let stands = subst (λ (k : ℕ). IsRoomWorker world stamped room d (m.workers k)) is (scene.1 at d here).2 in
      let (n, happens, history, stands', others) = en.happens m scene.0 stands in
      let turn : IsTurn world stamped room room' at d d' m n = record {
        history = history;
        desk = en.pass.0;
        admitted = en.pass.1;
        stands = subst (λ (k : ℕ). IsRoomWorker world stamped room' d' (n.workers k)) (sym is) stands';
        others = λ v other. others v (λ same. other (same ∙ sym is));
        admits = en.others;
        stay = en.stay;
      } in
      (n, happens, scene_turn world stamped room room' ds here scene turn);
}

pub returns-then-at-desks : goal.returns-then-at-desks
returns-then-at-desks g c = record {
  happens = λ m scene.
      let e = c.args.event.now in
      let ds = c.args.desks.now in
      let is : c.worker-at.result ≡ worker_of e = c.worker-at.ensures in
      let all : length ds ≡ most_workers = c.requires.all in
      let far : ¬ (worker_of e < most_workers) = λ near. absurd (omega (arith, is, all, near, c.if-at-desks.true)) in
      let past : length ds ≤ worker_of e = omega (arith, is, c.if-at-desks.true) in
      (m, beyond (reply_after g.W.World) g.W.Stamped.is_unmoved e m far (scene.2 (worker_of e) past), scene);
}
