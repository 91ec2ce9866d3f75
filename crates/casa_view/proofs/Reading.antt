-- what the getters of boards and views find
use Rattle.std.proofs.Common.{◌≡◌, ℕ, List, [], refl, sym, ap, ◌∙◌, Option, None, Some, unwrap_or}
use Rattle.std.specs.Option.{option_map, option_and_then}
use Rattle.casa_filing.specs.declared.regulation.Regulation.{Regulation}
use Rattle.casa_flight.specs.declared.row.Row.{Row}
use Rattle.casa_flight.specs.Listing.{Listing}
use Rattle.casa_filing.specs.Text.{Text, at_name}
use Rattle.casa_flight.specs.State.{row_of}
use Rattle.casa_flight.specs.Good.{AreInOrder}
use Rattle.casa_laws.proofs.Kept.{at-kept}
use Rattle.casa_footprint.specs.Items.{ItemName, the_clock, the_catalogue, a_row, a_list}
use Rattle.casa_footprint.specs.Items.{Content, moment, regulations, row_or_none, list_or_none}
use Rattle.casa_item.specs.declared.item.Item.{Item}
use Rattle.casa_item.specs.declared.item.Item.TheVariants.{Clock, Catalogue, Row as RowOf, List as ListOf}
use Rattle.casa_view.specs.declared.view.View.{View}
use Rattle.casa_item.specs.Versions.{Versions, shown_state, content_as, moment_of, regulations_of}
use Rattle.casa_item.specs.Versions.{row_of as row_of_item, list_of}
use Rattle.casa_view.specs.View.{seen, content_shown}
use Rattle.casa_view.specs.Shown.{catalogue_of, clock_shown, catalogue_shown, row_shown, list_shown}

-- a row of the state that a board shows is that of the version under the key
pub row-shown : {V : Type 0} (item_of : V → Item) (vs : Versions V) (key : Text) (found : Option V)
    → AreInOrder vs.rows → found ≡ at_name vs.rows key
    → option_and_then (λ (v : V). row_of_item (item_of v)) found ≡ row_of (shown_state item_of vs) key
row-shown {V} item_of vs key found order is =
    ap (option_and_then (λ (v : V). row_of_item (item_of v))) is
    ∙ sym (at-kept (λ (v : V). row_of_item (item_of v)) key vs.rows order)

-- the parts of a content
abbrev moment_in : Content → ℕ
moment_in (moment at) = at
moment_in (regulations all) = 0
moment_in (row_or_none row) = 0
moment_in (list_or_none list) = 0

abbrev regulations_in : Content → List Regulation
regulations_in (moment at) = []
regulations_in (regulations all) = all
regulations_in (row_or_none row) = []
regulations_in (list_or_none list) = []

abbrev row_in : Content → Option Row
row_in (moment at) = None
row_in (regulations all) = None
row_in (row_or_none row) = row
row_in (list_or_none list) = None

abbrev list_in : Content → Option Listing
list_in (moment at) = None
list_in (regulations all) = None
list_in (row_or_none row) = None
list_in (list_or_none list) = list

all-of : (item : Item) → unwrap_or (catalogue_of item) [] ≡ regulations_of item
all-of (Clock at) = refl
all-of (Catalogue all) = refl
all-of (RowOf key row) = refl
all-of (ListOf id list) = refl

-- what the getters of a view give of an item whose content the view shows
module _ {V : Type 0} (item_of : V → Item) (v : View V) where
  abbrev content : ItemName → Option V → Content
  content i w = content_as i (option_map item_of w)

  pub clock-is : (at : ℕ) → content_shown item_of v the_clock ≡ Some (moment at) → unwrap_or (clock_shown item_of v) 0 ≡ at
  clock-is at h = by (seen v the_clock) h
    where
      by : (o : Option (Option V)) → option_map (content the_clock) o ≡ Some (moment at)
          → unwrap_or (option_map moment_of (option_and_then (option_map item_of) o)) 0 ≡ at
      by None h = cc
      by (Some None) h = ap (λ (c : Option Content). moment_in (unwrap_or c (moment at))) h
      by (Some (Some m)) h = ap (λ (c : Option Content). moment_in (unwrap_or c (moment at))) h

  pub catalogue-is : (all : List Regulation) → content_shown item_of v the_catalogue ≡ Some (regulations all)
      → unwrap_or (catalogue_shown item_of v) [] ≡ all
  catalogue-is all h = by (seen v the_catalogue) h
    where
      by : (o : Option (Option V)) → option_map (content the_catalogue) o ≡ Some (regulations all)
          → unwrap_or (option_and_then catalogue_of (option_and_then (option_map item_of) o)) [] ≡ all
      by None h = cc
      by (Some None) h = ap (λ (c : Option Content). regulations_in (unwrap_or c (regulations all))) h
      by (Some (Some m)) h =
          all-of (item_of m) ∙ ap (λ (c : Option Content). regulations_in (unwrap_or c (regulations all))) h

  pub row-is : (key : Text) (row : Option Row) → content_shown item_of v (a_row key) ≡ Some (row_or_none row)
      → row_shown item_of v key ≡ row
  row-is key row h = by (seen v (a_row key)) h
    where
      by : (o : Option (Option V)) → option_map (content (a_row key)) o ≡ Some (row_or_none row)
          → option_and_then row_of_item (option_and_then (option_map item_of) o) ≡ row
      by None h = cc
      by (Some w) h = ap (λ (c : Option Content). row_in (unwrap_or c (row_or_none row))) h

  pub list-is : (id : Text) (list : Option Listing) → content_shown item_of v (a_list id) ≡ Some (list_or_none list)
      → list_shown item_of v id ≡ list
  list-is id list h = by (seen v (a_list id)) h
    where
      by : (o : Option (Option V)) → option_map (content (a_list id)) o ≡ Some (list_or_none list)
          → option_and_then list_of (option_and_then (option_map item_of) o) ≡ list
      by None h = cc
      by (Some w) h = ap (λ (c : Option Content). list_in (unwrap_or c (list_or_none list))) h
