-- the flights that versions show, as an index of them has them
use Rattle.std.proofs.Common.{◌≡◌, List, Bool, true, false, sym, ◌∙◌, Option, Some, if◌then◌else◌}
use Rattle.casa_flight.specs.declared.row.Row.{Row}
use Rattle.casa_filing.specs.Text.{Text, same_text}
use Rattle.casa_item.specs.declared.item.Item.{Item}
use Rattle.casa_table.specs.declared.flights.Departure.{Departure}
use Rattle.casa_table.specs.declared.flights.Passing.{Passing}
use Rattle.casa_item.specs.Versions.{row_of}
use Rattle.casa_table.specs.Laid.{where_put}
use Rattle.casa_table.specs.Flights.{IsIndexed, row_where, row_named, fewer_rows}

-- an index of the rows serves for their versions
pub noted_indexed : {V : Type 0} (item_of : V → Item) (at : Text → Option V)
    (ds : List Departure) (ps : Text → List Passing) (name : Text) (v : V) (row : Row)
    → row_of (item_of v) ≡ Some row → IsIndexed (where_put (row_where item_of at) name (Some row)) ds ps
    → IsIndexed (row_where item_of (where_put at name (Some v))) ds ps
noted_indexed {V} item_of at ds ps name v row is h =
    fewer_rows (where_put (row_where item_of at) name (Some row)) (row_where item_of (where_put at name (Some v))) ds ps
    (λ q x found. by q x (same_text name q) found) h
  where
    by : (q : Text) (x : Row) (b : Bool) → row_named item_of (if b then Some v else at q) ≡ Some x
        → (if b then Some row else row_where item_of at q) ≡ Some x
    by q x false found = found
    by q x true found = sym is ∙ found
