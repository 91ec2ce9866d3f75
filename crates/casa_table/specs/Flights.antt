-- inner contracts: rows by their versions, and indexes of flights
use Rattle.std.specs.Prelude.{◌≡◌, List, Bool, true, false, Option, None, Some, if◌then◌else◌}
use Rattle.std.specs.Option.{option_and_then}
use Rattle.casa_flight.specs.declared.row.Row.{Row}
use Rattle.casa_filing.specs.Text.{Text, same_text}
use Rattle.casa_flight.specs.Listing.{filter_map_values}
use Rattle.casa_item.specs.declared.item.Item.{Item}
use Rattle.casa_table.specs.declared.flights.Departure.{Departure}
use Rattle.casa_table.specs.declared.flights.Passing.{Passing}
use Rattle.casa_item.specs.Versions.{row_of}
use Rattle.casa_table.specs.Laid.{where_put}
use Rattle.casa_table.specs.Waiting.{HaveWaiting}
use Rattle.casa_table.specs.Passing.{HavePassings}

-- to believe: the rows of which these are the versions
abbrev pub rows_of : {V : Type 0} → (V → Item) → List (Text × V) → List (Text × Row)
rows_of {V} item_of entries = filter_map_values (λ (v : V). row_of (item_of v)) entries

-- to believe: the same, where an entry may also say that a row is absent
abbrev pub row_named : {V : Type 0} → (V → Item) → Option V → Option Row
row_named {V} item_of w = option_and_then (λ (v : V). row_of (item_of v)) w

-- to believe: the same of several
abbrev pub rows_named : {V : Type 0} → (V → Item) → List (Text × Option V) → List (Text × Row)
rows_named item_of entries = filter_map_values (row_named item_of) entries

-- the row under each name, where these versions stand
abbrev pub row_where : {V : Type 0} → (V → Item) → (Text → Option V) → Text → Option Row
row_where item_of at name = row_named item_of (at name)

-- an index of flights has the departures of all that wait, and all their passings
pub record IsIndexed (row_at : Text → Option Row) (ds : List Departure) (ps : Text → List Passing) : Type 0 where
  pub waiting : HaveWaiting row_at ds
  pub passings : HavePassings row_at ps

-- where each row of these is one of those, an index of those serves
pub fewer_rows : (at of : Text → Option Row) (ds : List Departure) (ps : Text → List Passing) →
    ((name : Text) (row : Row) → of name ≡ Some row → at name ≡ Some row) → IsIndexed at ds ps → IsIndexed of ds ps
fewer_rows at of ds ps less h = record {
  waiting = λ key row found. h.waiting key row (less key row found);
  passings = λ key row found. h.passings key row (less key row found);
}

pub fewer_indexed : {V : Type 0} (item_of : V → Item) (at : Text → Option V)
    (ds : List Departure) (ps : Text → List Passing) (name : Text)
    → IsIndexed (row_where item_of at) ds ps → IsIndexed (row_where item_of (where_put at name None)) ds ps
fewer_indexed {V} item_of at ds ps name h =
    fewer_rows (row_where item_of at) (row_where item_of (where_put at name None)) ds ps
    (λ q row found. by q row (same_text name q) found) h
  where
    by : (q : Text) (row : Row) (b : Bool) → row_named item_of (if b then None else at q) ≡ Some row
        → row_where item_of at q ≡ Some row
    by q row false h = h
    by q row true h = cc
