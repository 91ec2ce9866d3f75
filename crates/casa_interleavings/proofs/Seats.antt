-- the desks of a room, and the scene for which they stand
use Rattle.std.proofs.Common.{◌≡◌, ◌≢◌, ℕ, ◌<◌, ◌≤◌, Some, None, List, [], ◌∷◌, ◌++◌, length, set, sym, subst, ◌∙◌, refl, inl, inr, arith}
use Rattle.std.specs.Prelude.{slice_get}
use Rattle.std.proofs.Math.ListN.{length-set}
use Rattle.std.proofs.lemmas.Option.{slice_get_within}
use Rattle.casa_history.specs.declared.pass.Pass.{Pass}
use Rattle.casa_history.specs.Entries.{receipts, desk_of, number_of}
use Rattle.casa_commit.specs.declared.world.World.{Ghosts as WorldOf}
use Rattle.casa_commit.specs.declared.prepared.Prepared.{Prepared}
use Rattle.casa_commit.specs.declared.room.Room.{Room}
use Rattle.casa_commit.specs.Prepared.{view_of}
use Rattle.casa_commit.specs.Rooms.{Admits, world_of, entries_of, open_desks, room_number}
use Rattle.casa_interleavings.specs.declared.desk.Held.{Held}
use Rattle.casa_interleavings.specs.declared.desk.Held.TheVariants.{Nothing}
use Rattle.casa_interleavings.specs.declared.desk.Desk.{Desk}
use Rattle.casa_interleavings.specs.declared.stamped.Stamped.{Ghosts as StampedOf}
use Rattle.casa_interleavings.specs.Scenes.{nothing, Worker, Scene, opening_scene}
use Rattle.casa_interleavings.specs.Desks.{Holds, AreFresh}
use Rattle.casa_interleavings.specs.Rooms.{IsRoomView, IsRoomAnswer, IsRoomWorker, IsRoomScene, AreOfRoom}
use Rattle.casa_interleavings.proofs.Lists.{at_set, at_push}
use Rattle.casa_interleavings.proofs.Hands.{holds_for, holds_of}
use Rattle.casa_interleavings.proofs.Passes.{fresh_admitted}

module _ {C R V P : Type 0} where
  -- a desk as it is opened
  abbrev pub fresh_desk : Pass C R → Desk C R V P
  fresh_desk pass = record { pass = pass; held = Nothing; outcome = None }

  -- with one more such desk, fresh desks are fresh
  pub fresh_push : (number : ℕ) (ds : List (Desk C R V P)) (pass : Pass C R) → AreFresh number ds
      → desk_of pass ≡ length ds → number_of pass ≡ number → receipts pass ≡ []
      → AreFresh number (ds ++ fresh_desk pass ∷ [])
  fresh_push number ds pass fresh desk numbered none w d at =
      elim (at_push ds (fresh_desk pass) w d at) [
        | inl before ↦ fresh w d before
        | inr last ↦
            subst (λ (x : Desk C R V P).
            (desk_of x.pass ≡ w) × (number_of x.pass ≡ number) × (receipts x.pass ≡ [])
            × (x.held ≡ Nothing) × (x.outcome ≡ None))
            (sym last.1) (desk ∙ sym last.0, numbered, none, refl, refl)
      ]

-- a desk of a room with such a world
abbrev pub DeskOf : {W C V D R : Type 0} → WorldOf W C V D R → Type 0
DeskOf {W} {C} {V} {D} {R} world = Desk C R V (Prepared W C V D R world)

module _ {W C V D R : Type 0} (world : WorldOf W C V D R) (stamped : StampedOf W C V D R) where
  module _ (room : Room W C V D R world) where
    -- fresh desks of a room without entries stand for the opening scene
    pub fresh_scene : (ds : List (DeskOf world)) → length ds ≡ open_desks room → entries_of room ≡ []
        → AreFresh (room_number room) ds → IsRoomScene world stamped room ds opening_scene
    fresh_scene ds all empty fresh = (
      sym empty,
      (λ w d at.
          let f = fresh w d at in
          let within : w < length ds = slice_get_within ds w d at in (
            f.0,
            fresh_admitted room d.pass f.1 (omega (arith, f.0, within, all)) empty f.2,
            (
              subst (λ (h : Held C V (Prepared W C V D R world)).
                  Holds (IsRoomView world stamped room) (IsRoomAnswer world stamped room) h nothing) (sym f.3) tt,
              f.4,
            ),
          )),
      (λ w past. refl),
    )

    -- desks that stand for a scene are of the room
    pub seated : (ds : List (DeskOf world)) (m : Scene C R) → IsRoomScene world stamped room ds m → AreOfRoom world room ds
    seated ds m scene w d at =
        let was = scene.1 w d at in
        let hand = (m.workers w).hand in
        let IsView = IsRoomView world stamped room in
        let IsAnswer = IsRoomAnswer world stamped room in (
          was.0,
          was.1,
          holds_for IsView IsAnswer world.is_for (λ c before v is. is.0) d.held hand was.2.0,
          holds_of IsView IsAnswer (λ p. world.is_of (view_of p) (world_of room)) (λ c before p is. is.1)
              d.held hand was.2.0,
        )

  module _ (room room' : Room W C V D R world) where
    -- the turn of one worker: its desk and the room are changed, and the others stand for the same
    pub record IsTurn (w : ℕ) (d d' : DeskOf world) (m n : Scene C R) : Type 0 where
      pub history : n.history ≡ entries_of room'
      pub desk : desk_of d'.pass ≡ desk_of d.pass
      pub admitted : Admits room' d'.pass
      pub stands : IsRoomWorker world stamped room' d' (n.workers w)
      pub others : (v : ℕ) → v ≢ w → n.workers v ≡ m.workers v
      pub admits : (p : Pass C R) → desk_of p ≢ desk_of d.pass → Admits room p → Admits room' p
      pub stay : (y : DeskOf world) (x : Worker C R) → IsRoomWorker world stamped room y x
          → IsRoomWorker world stamped room' y x

    -- a desk of the changed room is a worker's, and stands for it
    abbrev IsOf : Scene C R → ℕ → DeskOf world → Type 0
    IsOf n v y = (desk_of y.pass ≡ v) × Admits room' y.pass × IsRoomWorker world stamped room' y (n.workers v)

    -- after a worker's turn the desks stand for the new scene
    pub scene_turn : (ds : List (DeskOf world)) {w : ℕ} {d d' : DeskOf world} {m n : Scene C R} → slice_get ds w ≡ Some d
        → IsRoomScene world stamped room ds m → IsTurn w d d' m n → IsRoomScene world stamped room' (set ds w d') n
    scene_turn ds {w} {d} {d'} {m} {n} at scene turn =
        let sits : desk_of d.pass ≡ w = (scene.1 w d at).0 in (
          turn.history,
          (λ v y at_v. elim (at_set ds w d' v y at_v) [
            | inl here ↦
                subst (λ (k : ℕ). IsOf n k y) (sym here.0)
                (subst (IsOf n w) (sym here.1) (turn.desk ∙ sits, turn.admitted, turn.stands))
            | inr there ↦
                let was = scene.1 v y there.1 in
                let apart : desk_of y.pass ≢ desk_of d.pass = λ same. there.0 (sym was.0 ∙ same ∙ sits) in (
                  was.0,
                  turn.admits y.pass apart was.1,
                  subst (IsRoomWorker world stamped room' y) (sym (turn.others v there.0)) (turn.stay y (m.workers v) was.2),
                )
          ]),
          (λ v past.
              let within : w < length ds = slice_get_within ds w d at in
              let long : length (set ds w d') ≡ length ds = length-set ds w d' in
              let apart : v ≢ w = λ same. absurd (omega (arith, same, within, long, past)) in
              let far : length ds ≤ v = omega (arith, long, past) in
              turn.others v apart ∙ scene.2 v far),
        )
