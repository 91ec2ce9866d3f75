use Rattle.std.proofs.Common.{sym, ap, subst, ◌∙◌, refl}
use Rattle.std.proofs.Math.Logic.{∥∥₁_elim}
use base.Stored.{Coded-set}
use Rattle.casa_commit.specs.Legal.{replay}
use Rattle.casa_commit.specs.Rooms.{world_of}
use Rattle.casa_commit.proofs.Replays.{good_state}
use Rattle.casa_interleavings.specs.declared.desk.Held.{Held}
use Rattle.casa_interleavings.specs.Desks.{Holds}
use Rattle.casa_interleavings.specs.Rooms.{IsRoomView, IsRoomAnswer}
use Rattle.casa_interleavings.proofs.Hands.{holds_compute}
use Rattle.casa_interleavings.proofs.worker.compute.Goals as goal

pub returns-in_ok-answer-in-View-clause-stands : goal.returns-in_ok-answer-in-View-clause-stands
returns-in_ok-answer-in-View-clause-stands g c x stands =
    let world = g.W.World in
    let stamped = g.W.Stamped in
    let met = g.met.W.World in
    let room = c.args.room.now in
    let p = c.in_ok-answer-in-View.answer in
    let answered = c.in_ok-answer-in-View.ensures in
    let IsView = IsRoomView world stamped room in
    let IsAnswer = IsRoomAnswer world stamped room in
    let is_view = sym c.replace.ensures.value ∙ c.in-View.is in
    let held = subst (λ (h : Held _ _ _). Holds IsView IsAnswer h x.hand) is_view stands.0 in (
      holds_compute IsView IsAnswer c.in-View.call c.in-View.view p
          (λ d before same is.
          let state = replay world.after world.opening before in
          let good = good_state world.good world.after met.good_after world.opening met.good_opening before state refl in (
            answered.call ∙ same,
            subst (λ v. world.is_of v (world_of room)) (sym answered.view) is.1,
            subst (λ v. stamped.is_view_of before d v) (sym answered.view) is.3,
            is.4,
            ∥∥₁_elim p.holds (Coded-set g.row.W-Reply.coded _ _)
                (λ says. (says state good (subst (λ v. world.shows state v) (sym answered.view) is.2)).0
                ∙ ap (λ k. world.reply state k) (answered.call ∙ same)),
            subst (λ v. stamped.is_tied v (world_of room)) (sym answered.view) is.5,
          ))
          x.hand held,
      stands.1,
    )
