-- to believe: what a session over a desk has to do with that is alone on a board
use Rattle.std.specs.Prelude.{◌≡◌, ℕ, ◌<◌, List, Option}
use Rattle.casa_flight.specs.declared.call.Call.{Call}
use Rattle.casa_flight.specs.declared.reply.Reply.{Reply}
use Rattle.casa_flight.specs.State.{empty}
use Rattle.casa_commit.specs.declared.world.World.{Ghosts as WorldOf}
use Rattle.casa_commit.specs.declared.room.Room.{Room}
use Rattle.casa_commit.specs.Rooms.{entries_of, open_desks}
use Rattle.casa_session.specs.Played.{calls_in, only_desk, sequential_history, receipts_after, receipts_played}
use Rattle.casa_session.specs.Transcript.{Sides, calls, transcript}

-- inner: a room is that of one desk: this is open, and the history is the one of its calls
pub record IsAlone {W V D : Type 0} {world : WorldOf W Call V D Reply} (room : Room W Call V D Reply world) : Type 0 where
  pub is_open : only_desk < open_desks room
  pub history : entries_of room ≡ sequential_history empty (calls_in (entries_of room))

-- the transcript of these lines, each call being answered as the sequential allocator does after the calls before it
abbrev pub transcript_after : List Call → List (List ℕ) → List ℕ
transcript_after before lines = transcript (receipts_after before (calls lines)) lines

-- the sides of a session over a desk that had answered these calls before, and has answered these now, each as the sequential
-- allocator does: there are r and then s to read, and v and then w is written
abbrev pub lone_sides : (before now : List Call) → (r s v w : Option (List ℕ)) → Sides
lone_sides before now r s v w = record {
  input = r;
  input_left = s;
  receipts = receipts_played before;
  receipts_now = receipts_played now;
  output = v;
  output_now = w;
}
