-- inner contracts: a room with its desks, and the scene for which it stands
use Rattle.std.specs.Prelude.{◌≡◌, List, length}
use Rattle.casa_history.specs.declared.entry.Entry.{Entry}
use Rattle.casa_commit.specs.declared.world.World.{Ghosts as WorldOf}
use Rattle.casa_commit.specs.declared.prepared.Prepared.{Prepared}
use Rattle.casa_commit.specs.declared.room.Room.{Room}
use Rattle.casa_commit.specs.Legal.{replay}
use Rattle.casa_commit.specs.Prepared.{call_of, view_of, reply_of}
use Rattle.casa_commit.specs.Rooms.{Admits, world_of, entries_of}
use Rattle.casa_interleavings.specs.declared.desk.Desk.{Desk}
use Rattle.casa_interleavings.specs.declared.stamped.Stamped.{Ghosts as StampedOf}
use Rattle.casa_interleavings.specs.Scenes.{Worker, Scene, opening_scene, Leads, most_workers}
use Rattle.casa_interleavings.specs.declared.event.Event.{Event}
use Rattle.casa_interleavings.specs.Desks.{IsViewTaken, IsReplyOnView, IsWorker, IsScene, AreSeated}

-- the reply to a call after a history
abbrev pub reply_after : {W C V D R : Type 0} → WorldOf W C V D R → List (Entry C R) → C → R
reply_after world before call = world.reply (replay world.after world.opening before) call

-- a view that a desk of the room holds was taken for this call after that history
abbrev pub IsRoomView : {W C V D R : Type 0} (world : WorldOf W C V D R) → StampedOf W C V D R → Room W C V D R world
    → C → List (Entry C R) → V → Type 0
IsRoomView world stamped room =
    IsViewTaken world.is_for world.is_of world.shows stamped.is_view_of stamped.is_tied (replay world.after world.opening) (world_of room) (entries_of room)

-- an answer that a desk of the room holds was worked out for this call on such a view
abbrev pub IsRoomAnswer : {W C V D R : Type 0} (world : WorldOf W C V D R) → StampedOf W C V D R → Room W C V D R world
    → C → List (Entry C R) → Prepared W C V D R world → Type 0
IsRoomAnswer world stamped room call before p =
    IsReplyOnView world.is_of stamped.is_view_of stamped.is_tied (reply_after world) (world_of room) (entries_of room) call before (call_of p) (view_of p) (reply_of p)

-- a desk of the room stands for a worker
abbrev pub IsRoomWorker : {W C V D R : Type 0} (world : WorldOf W C V D R) → StampedOf W C V D R → Room W C V D R world
    → Desk C R V (Prepared W C V D R world) → Worker C R → Type 0
IsRoomWorker world stamped room desk x = IsWorker (IsRoomView world stamped room) (IsRoomAnswer world stamped room) desk x

-- the room with its desks stands for a scene
abbrev pub IsRoomScene : {W C V D R : Type 0} (world : WorldOf W C V D R) → StampedOf W C V D R → Room W C V D R world
    → List (Desk C R V (Prepared W C V D R world)) → Scene C R → Type 0
IsRoomScene world stamped room desks m =
    IsScene (Admits room) (IsRoomView world stamped room) (IsRoomAnswer world stamped room) (entries_of room) desks m

-- each desk of the room is its worker's, and what it holds can be handed in
abbrev pub AreOfRoom : {W C V D R : Type 0} (world : WorldOf W C V D R) → Room W C V D R world
    → List (Desk C R V (Prepared W C V D R world)) → Type 0
AreOfRoom world room desks = AreSeated (Admits room) world.is_for (λ p. world.is_of (view_of p) (world_of room)) desks

-- these events led to the scene for which the room with its desks stands
abbrev pub HasHad : {W C V D R : Type 0} (world : WorldOf W C V D R) → StampedOf W C V D R → List (Event C) → Room W C V D R world
    → List (Desk C R V (Prepared W C V D R world)) → Type 0
HasHad world stamped events room desks =
    (length desks ≡ most_workers)
    × ((n : Scene _ _) × Leads (reply_after world) stamped.is_unmoved events opening_scene n × IsRoomScene world stamped room desks n)
