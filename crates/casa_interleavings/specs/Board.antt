-- to believe: the sequential allocator's replies, equal stamps, and why a commit is refused
use Rattle.std.specs.Prelude.{◌≡◌, ℕ, List, ◌++◌, true}
use Rattle.casa_flight.specs.declared.call.Call.{Call}
use Rattle.casa_flight.specs.declared.reply.Reply.{Reply}
use Rattle.casa_flight.specs.Replies.{reply}
use Rattle.casa_history.specs.declared.entry.Entry.{Entry}
use Rattle.casa_footprint.specs.Items.{ItemName}
use Rattle.casa_footprint.specs.Stamps.{state_after, IsUnmoved}
use Rattle.casa_footprint.specs.Footprint.{reads}
use Rattle.casa_footprint.specs.Written.{view_after, IsWritten}
use Rattle.casa_interleavings.specs.declared.event.Event.{Event}
use Rattle.casa_interleavings.specs.Scenes.{Scene}
use Rattle.casa_interleavings.specs.Causes.{IsRefusedIn}

-- the reply of the sequential allocator to a call after a history
abbrev pub sequential_reply : List (Entry Call Reply) → Call → Reply
sequential_reply history call = reply (state_after history) call

-- what a call read after a history has the same stamps now
abbrev pub HasSameStamps : List (Entry Call Reply) → Call → List (Entry Call Reply) → Type 0
HasSameStamps before call now = IsUnmoved (view_after before call) now

-- each commit that is refused has a cause: not all that its view had read has the same stamps any more, and of the items of
-- this very view not none was written by an entry behind the history after which the view was taken
abbrev pub RefusalsHaveCauses : List (Event Call) → Type 0
RefusalsHaveCauses events =
    (w : ℕ) (call : Call) (before : List (Entry Call Reply)) (m : Scene Call Reply) →
    IsRefusedIn sequential_reply HasSameStamps events w call before m →
    (later : List (Entry Call Reply)) × (m.history ≡ before ++ later)
    × (¬ (HasSameStamps before call m.history))
    × (¬ ((i : ItemName) → reads (state_after before) call i ≡ true → ¬ (IsWritten before later i)))
