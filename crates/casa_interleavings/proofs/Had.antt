-- the run that a room with its desks has had
use Rattle.std.proofs.Common.{◌≡◌, ℕ, Some, None, Option, List, map, sym, ap, ◌∙◌, refl}
use Rattle.std.specs.Prelude.{slice_get, option_map}
use Rattle.std.proofs.lemmas.Option.{slice_get-map}
use Rattle.casa_commit.specs.declared.world.World.{Ghosts as WorldOf}
use Rattle.casa_commit.specs.declared.room.Room.{Room}
use Rattle.casa_commit.specs.Rooms.{entries_of}
use Rattle.casa_interleavings.specs.declared.event.Outcome.{Outcome}
use Rattle.casa_interleavings.specs.declared.event.Event.{Event}
use Rattle.casa_interleavings.specs.declared.stamped.Stamped.{Ghosts as StampedOf}
use Rattle.casa_interleavings.specs.Scenes.{Worker, Scene, IsRun}
use Rattle.casa_interleavings.specs.Rooms.{reply_after, IsRoomScene, HasHad}
use Rattle.casa_interleavings.specs.Runs.{outcome_found}
use Rattle.casa_interleavings.proofs.Lists.{none_past}
use Rattle.casa_interleavings.proofs.Seats.{DeskOf}

module _ {W C V D R : Type 0} (world : WorldOf W C V D R) (stamped : StampedOf W C V D R)
    (room : Room W C V D R world) where
  -- the outcome of the last commit at a desk
  abbrev outcome_at : List (DeskOf world) → ℕ → Option Outcome
  outcome_at ds w = outcome_found (slice_get (map (λ (d : DeskOf world). d.outcome) ds) w)

  -- desks that stand for a scene were told what its workers were
  scene_outcome : (ds : List (DeskOf world)) (m : Scene C R) → IsRoomScene world stamped room ds m
      → (w : ℕ) → outcome_at ds w ≡ (m.workers w).outcome
  scene_outcome ds m scene w =
      ap (λ (o : Option (Option Outcome)). outcome_found o) (slice_get-map (λ (d : DeskOf world). d.outcome) ds w)
      ∙ told (slice_get ds w) refl
    where
      told : (o : Option (DeskOf world)) → slice_get ds w ≡ o
          → outcome_found (option_map (λ (d : DeskOf world). d.outcome) o) ≡ (m.workers w).outcome
      told None is = sym (ap (λ (x : Worker C R). x.outcome) (scene.2 w (none_past ds w is)))
      told (Some d) is = (scene.1 w d is).2.1

  -- events that led to the scene for which the room stands are those of a run, with the history of the room
  pub had_run : (events : List (Event C)) (ds : List (DeskOf world)) → HasHad world stamped events room ds
      → IsRun (reply_after world) stamped.is_unmoved events (entries_of room) (outcome_at ds)
  had_run events ds (all, (m, leads, scene)) = (m, leads, sym scene.0, scene_outcome ds m scene)
