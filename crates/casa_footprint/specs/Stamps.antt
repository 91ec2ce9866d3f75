-- to believe: the stamp of an item: the number of the last entry that wrote it
use Rattle.std.specs.Prelude.{◌≡◌, ℕ, ◌+◌, List, [], ◌∷◌, Bool, true, false, not, is_some, if◌then◌else◌}
use Rattle.casa_flight.specs.declared.call.Call.{Call}
use Rattle.casa_flight.specs.declared.reply.Reply.{Reply}
use Rattle.casa_flight.specs.declared.state.State.{State}
use Rattle.casa_flight.specs.State.{empty, row_of}
use Rattle.casa_flight.specs.Steps.{next}
use Rattle.casa_history.specs.declared.entry.Entry.{Entry}
use Rattle.casa_commit.specs.Legal.{replay}
use Rattle.casa_footprint.specs.Items.{ItemName, the_clock, the_catalogue, a_row, a_list}
use Rattle.casa_footprint.specs.Footprint.{writes}

-- the state after a history: its replay from the empty state, where no call looks at the position of its entry
abbrev pub state_after : List (Entry Call Reply) → State
state_after history = replay (λ position m call. next m call) empty history

-- the position of the last of these entries that wrote the item, where so many entries came before and `last` was the
-- position of the last of those
abbrev pub last_write : State → ℕ → ℕ → ItemName → List (Entry Call Reply) → ℕ
last_write m before last i [] = last
last_write m before last i (e ∷ es) = last_write (next m e.call) (before + 1) (if writes m e.call i then before + 1 else last) i es

-- whether the item is the row of a flight that is not there
abbrev pub is_absent_row : State → ItemName → Bool
is_absent_row m the_clock = false
is_absent_row m the_catalogue = false
is_absent_row m (a_row key) = not (is_some (row_of m key))
is_absent_row m (a_list id) = false

-- the stamp of an item after a history: the position, from 1, of the last entry that wrote it, 0 if none did, and 0 for an
-- absent row
abbrev pub stamp : List (Entry Call Reply) → ItemName → ℕ
stamp history i = if is_absent_row (state_after history) i then 0 else last_write empty 0 0 i history

-- a view: which items it has, and the stamps that it saw on them
pub record View : Type 0 where
  pub has : ItemName → Bool
  pub seen : ItemName → ℕ

-- a view is unmoved after a history if each of its items has the stamp that the view saw
abbrev pub IsUnmoved : View → List (Entry Call Reply) → Type 0
IsUnmoved view history = (i : ItemName) → view.has i ≡ true → stamp history i ≡ view.seen i
