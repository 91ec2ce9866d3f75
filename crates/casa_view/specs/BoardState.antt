-- to believe: how a board stands, and how it stands after a call
use Rattle.std.specs.Prelude.{◌≡◌, ℕ, List, Option, None, if◌then◌else◌}
use Rattle.casa_flight.specs.declared.call.Call.{Call}
use Rattle.casa_filing.specs.declared.regulation.Regulation.{Regulation}
use Rattle.casa_flight.specs.declared.reply.Reply.{Reply}
use Rattle.casa_flight.specs.declared.state.State.{State}
use Rattle.casa_filing.specs.Text.{Text}
use Rattle.casa_flight.specs.State.{empty, row_of, catalogue}
use Rattle.casa_flight.specs.Listing.{Listing, list_of}
use Rattle.casa_flight.specs.Steps.{next}
use Rattle.casa_flight.specs.Replies as replies
use Rattle.casa_flight.specs.Good.{IsGood}
use Rattle.casa_footprint.specs.Items.{ItemName, a_row}
use Rattle.casa_footprint.specs.Footprint.{writes}
use Rattle.casa_footprint.specs.Stamps.{is_absent_row}
use Rattle.casa_item.specs.declared.item.Item.{Item}
use Rattle.casa_item.specs.Versions.{Versions, regulations_of, shown_state, list_at, stamp_at}

-- how a board stands: the state that it shows, the catalogue and the lists that it keeps of that, and the stamps
pub record BoardState : Type 0 where
  pub state : State
  pub catalogue : List Regulation
  pub list : Text → Option Listing
  pub stamp : ItemName → ℕ

-- a board stands well if the state is good, if catalogue and lists are those of the state,
-- and if no absent row has a stamp
pub record IsGoodBoard (s : BoardState) : Type 0 where
  pub good : IsGood s.state
  pub catalogue_is : catalogue s.state ≡ s.catalogue
  pub list_is : (id : Text) → list_of s.state id ≡ s.list id
  pub unstamped : (key : Text) → row_of s.state key ≡ None → s.stamp (a_row key) ≡ 0

-- how an empty board stands
abbrev pub opening : BoardState
opening = record { state = empty; catalogue = catalogue empty; list = list_of empty; stamp = λ i. 0 }

-- the stamps after a call whose entry has this position: what it writes gets that, and an absent row has none
abbrev pub stamp_after : ℕ → State → Call → (ItemName → ℕ) → ItemName → ℕ
stamp_after position m call stamp i =
    if is_absent_row (next m call) i then 0 else (if writes m call i then position else stamp i)

-- how a board stands after a call whose entry has this position
abbrev pub after : ℕ → BoardState → Call → BoardState
after position s call = record {
  state = next s.state call;
  catalogue = catalogue (next s.state call);
  list = list_of (next s.state call);
  stamp = stamp_after position s.state call s.stamp;
}

-- the reply to a call, as a board stands
abbrev pub reply : BoardState → Call → Reply
reply s call = replies.reply s.state call

-- how a board with these versions stands
abbrev pub board_state : {V : Type 0} → (V → Item) → (V → ℕ) → Versions V → BoardState
board_state item_of stamp_of vs = record {
  state = shown_state item_of vs;
  catalogue = regulations_of (item_of vs.catalogue);
  list = list_at item_of vs;
  stamp = stamp_at stamp_of vs;
}
