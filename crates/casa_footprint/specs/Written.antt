-- to believe: whether an entry has written an item since
use Rattle.std.specs.Prelude.{◌≡◌, ℕ, Some, List, ◌++◌, take, slice_get, true}
use Rattle.casa_flight.specs.declared.call.Call.{Call}
use Rattle.casa_flight.specs.declared.reply.Reply.{Reply}
use Rattle.casa_history.specs.declared.entry.Entry.{Entry}
use Rattle.casa_footprint.specs.Items.{ItemName}
use Rattle.casa_footprint.specs.Footprint.{reads, writes}
use Rattle.casa_footprint.specs.Stamps.{View, state_after, stamp, is_absent_row}

-- the view for a call after a history: what the call reads there, with the stamps
abbrev pub view_after : List (Entry Call Reply) → Call → View
view_after history call = record { has = reads (state_after history) call; seen = stamp history }

-- one of the entries behind a history wrote the item
abbrev pub IsWritten : List (Entry Call Reply) → List (Entry Call Reply) → ItemName → Type 0
IsWritten history later i =
    (k : ℕ) × (e : Entry Call Reply) × (slice_get later k ≡ Some e)
    × (writes (state_after (history ++ take k later)) e.call i ≡ true)

-- inner: the item is an absent row before and after these entries
abbrev pub IsAbsentStill : List (Entry Call Reply) → List (Entry Call Reply) → ItemName → Type 0
IsAbsentStill history later i =
    (is_absent_row (state_after history) i ≡ true) × (is_absent_row (state_after (history ++ later)) i ≡ true)
