-- to believe: histories of one thread, and how a board stands after one
use Rattle.std.specs.Prelude.{◌≡◌, ℕ, List, map, Option, Some, None, MatchOption, slice_get, take}
use Rattle.casa_flight.specs.declared.call.Call.{Call}
use Rattle.casa_flight.specs.declared.comp.Assigned.{Assigned}
use Rattle.casa_flight.specs.declared.reply.Reply.{Reply}
use Rattle.casa_flight.specs.declared.state.State.{State}
use Rattle.casa_filing.specs.Text.{Text}
use Rattle.casa_flight.specs.State.{catalogue}
use Rattle.casa_flight.specs.Assignment.{IsRight}
use Rattle.casa_flight.specs.Good.{IsGood}
use Rattle.casa_flight.specs.Listing.{Listing, list_of, competitors, occupancy}
use Rattle.casa_flight.specs.Replies.{reply}
use Rattle.casa_history.specs.declared.entry.Entry.{Entry}
use Rattle.casa_footprint.specs.Items.{ItemName}
use Rattle.casa_footprint.specs.Stamps.{state_after, stamp}
use Rattle.casa_view.specs.BoardState.{BoardState}

-- a history of one thread: each reply is what the sequential allocator replies after the entries before it
abbrev pub IsSequential : List (Entry Call Reply) → Type 0
IsSequential history =
    (k : ℕ) (e : Entry Call Reply) → slice_get history k ≡ Some e → e.reply ≡ reply (state_after (take k history)) e.call

-- how a board stands after a history: its state is the one to which the history leads and is good, its catalogue and its
-- lists are those of that state, and each item has its stamp
pub record IsBoardAfter (history : List (Entry Call Reply)) (s : BoardState) : Type 0 where
  pub state : s.state ≡ state_after history
  pub good : IsGood s.state
  pub catalogue_is : s.catalogue ≡ catalogue s.state
  pub lists : (id : Text) → s.list id ≡ list_of s.state id
  pub stamps : (i : ItemName) → s.stamp i ≡ stamp history i

-- the n-th of those who compete for the slots of a regulation, with its place: there is an assignment of places to the
-- competitors, in their order, that is right by first planned, first served around the issued flights, and of it this is the
-- n-th; none where the regulation is not open
abbrev pub IsServedAs : State → Text → ℕ → Option Assigned → Type 0
IsServedAs m id n answer =
    MatchOption (list_of m id) (answer ≡ None)
    (λ (l : Listing). (all : List Assigned) × IsRight (occupancy l) all
    × (map (λ (a : Assigned). a.comp) all ≡ competitors l) × (answer ≡ slice_get all n))
