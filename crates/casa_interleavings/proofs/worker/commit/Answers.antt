use Rattle.std.proofs.Common.{Some, sym, subst, refl, ◌∙◌}
use Rattle.casa_commit.specs.Prepared.{view_of}
use Rattle.casa_commit.specs.Rooms.{entries_of}
use Rattle.casa_day.proofs.Lists.{grows_on}
use Rattle.casa_interleavings.specs.declared.desk.Held.{Held}
use Rattle.casa_interleavings.specs.Scenes.{Hand, nothing, Worker, Commits}
use Rattle.casa_interleavings.specs.Desks.{Holds}
use Rattle.casa_interleavings.specs.Rooms.{reply_after, IsRoomView, IsRoomAnswer, IsRoomWorker}
use Rattle.casa_interleavings.proofs.Hands.{answer_held, still_holds}
use Rattle.casa_interleavings.proofs.Workers.{handed}
use Rattle.casa_interleavings.proofs.worker.commit.Goals as goal

-- what other desks hold goes on standing for the same: the world keeps the name of the views, and the history only grows
pub returns-in_ok-outcome-in-Answer-clause-stay : goal.returns-in_ok-outcome-in-Answer-clause-stay
returns-in_ok-outcome-in-Answer-clause-stay g c y x stands =
    let world = g.W.World in
    let stamped = g.W.Stamped in
    let room = c.args.room.now in
    let room' = c.hand_in.new.room in
    let told = c.in_ok-outcome-in-Answer.ensures in
    let es = entries_of room in
    let fs = entries_of room' in
    let holds =
    still_holds (IsRoomView world stamped room) (IsRoomView world stamped room')
    (IsRoomAnswer world stamped room) (IsRoomAnswer world stamped room')
    (λ k before v is.
    (is.0, told.views v is.1, is.2, is.3, grows_on before es fs is.4 told.grows, told.ties k v before is.4 is.1 is.3 is.5))
    (λ k before p is.
    let v = view_of p in
    (is.0, told.views v is.1, is.2, grows_on before es fs is.3 told.grows, is.4, told.ties k v before is.3 is.1 is.2 is.5))
    y.held x.hand stands.0 in
    (holds, stands.1)

pub returns-in_ok-outcome-in-Answer-clause-happens : goal.returns-in_ok-outcome-in-Answer-clause-happens
returns-in_ok-outcome-in-Answer-clause-happens g c w m sits history stands =
    let world = g.W.World in
    let stamped = g.W.Stamped in
    let reply = reply_after world in
    let room = c.args.room.now in
    let room' = c.hand_in.new.room in
    let fs = entries_of room' in
    let p = c.in-Answer.prepared in
    let outcome = c.in_ok-outcome-in-Answer.outcome in
    let desk = c.args.desk.now in
    let desk' = record desk { pass = c.hand_in.new.pass; held = c.replace.new.dest; outcome = Some outcome } in
    let hand = (m.workers w).hand in
    let IsView = IsRoomView world stamped room in
    let IsAnswer = IsRoomAnswer world stamped room in
    let is_answer = sym c.replace.ensures.value ∙ c.in-Answer.is in
    let held = subst (λ (h : Held _ _ _). Holds IsView IsAnswer h hand) is_answer stands.0 in
    let (call, before, holds, is) = answer_held IsView IsAnswer p hand held in
    let seen = subst (λ d. stamped.is_view_of before d (view_of p)) (sym is.0) is.2 in
    let (n, commits, grown, worker, others) = handed reply stamped.is_unmoved before fs outcome m sits is.0 is.4 history
    (c.in_ok-outcome-in-Answer.ensures.tells before is.3 seen is.5) in
    let empty =
    subst (λ (h : Held _ _ _). Holds (IsRoomView world stamped room') (IsRoomAnswer world stamped room') h nothing)
    (sym c.replace.ensures.after) tt in (
      n,
      subst (λ (h : Hand _ _). Commits reply stamped.is_unmoved w h m n) (sym holds) commits,
      grown,
      subst (λ (y : Worker _ _). IsRoomWorker world stamped room' desk' y) (sym worker) (empty, refl),
      others,
    )
