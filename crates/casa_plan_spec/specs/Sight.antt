-- inner contracts: what a view shows to a planner, and when an answer by it is the right one
use Rattle.std.specs.Prelude.{◌≡◌, ℕ, List, [], true, Option, None, Some, unwrap_or}
use Rattle.std.specs.Option.{option_map, option_flatten, option_or}
use Rattle.casa_flight.specs.declared.call.Call.{Call}
use Rattle.casa_filing.specs.declared.regulation.Regulation.{Regulation}
use Rattle.casa_flight.specs.declared.reply.Reply.{Reply}
use Rattle.casa_flight.specs.declared.row.Row.{Row}
use Rattle.casa_flight.specs.declared.row.Stance.{Stance}
use Rattle.casa_flight.specs.declared.state.State.{State}
use Rattle.casa_filing.specs.Text.{Text, at_name, put, without}
use Rattle.casa_flight.specs.State.{row_of, catalogue}
use Rattle.casa_flight.specs.Listing.{Listing, list_of}
use Rattle.casa_flight.specs.Entry.{Situation}
use Rattle.casa_flight.specs.Good.{IsGood}
use Rattle.casa_flight.specs.Replies.{reply}
use Rattle.casa_footprint.specs.Items.{ItemName, the_clock, the_catalogue, a_row, a_list}
use Rattle.casa_footprint.specs.Items.{Content, moment, regulations, row_or_none, list_or_none}
use Rattle.casa_footprint.specs.Footprint.{reads}
use Rattle.casa_footprint.specs.Change.{IsChange}

-- what a view shows: the clock and the catalogue, if it holds them; the rows that it holds and that are there, in the order
-- of their keys; and the lists that it holds, by their identifiers, or that there is none
pub record Sight : Type 0 where
  pub clock : Option ℕ
  pub catalogue : Option (List Regulation)
  pub rows : List (Text × Row)
  pub lists : List (Text × Option Listing)

-- the row under a key and the list under an identifier, where they are shown
abbrev pub row_in : Sight → Text → Option Row
row_in v key = at_name v.rows key

abbrev pub list_in : Sight → Text → Option Listing
list_in v id = option_flatten (at_name v.lists id)

-- a view for a call on a state shows what the call reads there
pub record IsSightOf (m : State) (call : Call) (v : Sight) : Type 0 where
  pub clock : reads m call the_clock ≡ true → v.clock ≡ Some m.clock
  pub catalogue : reads m call the_catalogue ≡ true → v.catalogue ≡ Some (catalogue m)
  pub row : (key : Text) → reads m call (a_row key) ≡ true → row_in v key ≡ row_of m key
  pub list : (id : Text) → reads m call (a_list id) ≡ true → list_in v id ≡ list_of m id
  pub rows : ((key : Text) → reads m call (a_row key) ≡ true) → v.rows ≡ m.rows

-- the clock and the catalogue that are shown
abbrev pub clock_in : Sight → ℕ
clock_in v = unwrap_or v.clock 0

abbrev pub regulations_in : Sight → List Regulation
regulations_in v = unwrap_or v.catalogue []

-- what a flight that enters finds in a view
abbrev pub situation_in : Sight → Situation
situation_in v = record { clock = clock_in v; regulations = regulations_in v; lists = list_in v }

-- to believe: how a flight is to stand in a list: so, or not at all
abbrev pub Stand : Type 0
Stand = Text × Option Stance

-- to believe: the list with the flight standing so, or not at all
abbrev pub with_flight : Listing → Text → Option Stance → Listing
with_flight l key None = record l { flights = without l.flights key }
with_flight l key (Some s) = record l { flights = put l.flights key s }

-- to believe: what a change writes: the clock, the catalogue, and rows and lists by their names, or that there is none; and, of
-- other lists, how a flight is to stand there
pub record Written : Type 0 where
  pub clock : Option ℕ
  pub catalogue : Option (List Regulation)
  pub rows : List (Text × Option Row)
  pub lists : List (Text × Option Listing)
  pub stands : List (Text × Stand)

-- to believe: nothing
abbrev pub nothing_written : Written
nothing_written = record { clock = None; catalogue = None; rows = []; lists = []; stands = [] }

-- to believe: what a change says of an item, if it says anything, where the lists stand so before it
abbrev pub says : (Text → Option Listing) → Written → ItemName → Option Content
says lists w the_clock = option_map moment w.clock
says lists w the_catalogue = option_map regulations w.catalogue
says lists w (a_row key) = option_map row_or_none (at_name w.rows key)
says lists w (a_list id) =
    option_or
    (option_map (λ (s : Stand). list_or_none (option_map (λ (l : Listing). with_flight l s.0 s.1) (lists id)))
    (at_name w.stands id))
    (option_map list_or_none (at_name w.lists id))

-- the row under a key and the list under an identifier, as a view shows them with a change laid over it
abbrev pub row_with : Sight → Written → Text → Option Row
row_with v w key = unwrap_or (at_name w.rows key) (row_in v key)

abbrev pub list_with : Sight → Written → Text → Option Listing
list_with v w id = unwrap_or (at_name w.lists id) (list_in v id)

-- the answer to a call in a state: its reply, and a change of what it writes
abbrev pub IsAnswerIn : State → Call → Reply × Written → Type 0
IsAnswerIn m call p = (p.0 ≡ reply m call) × IsChange m call (says (list_of m) p.1)

-- and so in every good state of which the view shows what the call reads
abbrev pub IsPlanned : Sight → Call → Reply × Written → Type 0
IsPlanned v call p = (m : State) → IsGood m → IsSightOf m call v → IsAnswerIn m call p
