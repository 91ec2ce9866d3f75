-- to believe: the items of a state, and what each contains
use Rattle.std.specs.Prelude.{◌≡◌, ℕ, List, Bool, true, Option}
use Rattle.casa_filing.specs.declared.regulation.Regulation.{Regulation}
use Rattle.casa_flight.specs.declared.row.Row.{Row}
use Rattle.casa_flight.specs.declared.state.State.{State}
use Rattle.casa_filing.specs.Text.{Text}
use Rattle.casa_flight.specs.State.{row_of, catalogue}
use Rattle.casa_flight.specs.Listing.{Listing, list_of}

-- the name of an item of the state: the clock, the catalogue, and for every key the row there and for every identifier the
-- list there, or that there is none
pub data ItemName : Type 0 where
  the_clock : ItemName
  the_catalogue : ItemName
  a_row : Text → ItemName
  a_list : Text → ItemName

-- what an item contains: a moment, the open regulations, a row or its absence, a list or its absence
pub data Content : Type 0 where
  moment : ℕ → Content
  regulations : List Regulation → Content
  row_or_none : Option Row → Content
  list_or_none : Option Listing → Content

-- what an item contains in a state
abbrev pub contents : State → ItemName → Content
contents m the_clock = moment m.clock
contents m the_catalogue = regulations (catalogue m)
contents m (a_row key) = row_or_none (row_of m key)
contents m (a_list id) = list_or_none (list_of m id)

-- inner: two states have the same contents of each item that passes the test
abbrev pub AgreeOn : (ItemName → Bool) → State → State → Type 0
AgreeOn test m n = (i : ItemName) → test i ≡ true → contents m i ≡ contents n i
