-- the rows that a view shows
use Rattle.std.proofs.Common.{◌≡◌, refl, ◌∙◌, Option, None, Some}
use Rattle.std.specs.Option.{option_map, option_and_then}
use Rattle.casa_filing.specs.Text.{Text, at_name}
use Rattle.casa_flight.specs.Good.{AreInOrder}
use Rattle.casa_laws.proofs.Kept.{at-kept, sorted-kept}
use Rattle.casa_item.specs.declared.item.Item.{Item}
use Rattle.casa_view.specs.declared.view.Part.{Part}
use Rattle.casa_view.specs.declared.view.Part.TheVariants.{All, Named}
use Rattle.casa_item.specs.Versions.{row_of}
use Rattle.casa_view.specs.View.{seen_in}
use Rattle.casa_table.specs.Flights.{row_named}
use Rattle.casa_view.specs.Shown.{IsInOrder, rows_in}

module _ {V : Type 0} (item_of : V → Item) where
  by_item : (w : Option (Option V))
      → option_and_then (row_named item_of) w ≡ option_and_then row_of (option_and_then (option_map item_of) w)
  by_item None = refl
  by_item (Some None) = refl
  by_item (Some (Some v)) = refl

  by_version : (w : Option V)
      → option_and_then (λ (v : V). row_of (item_of v)) w ≡ option_and_then row_of (option_map item_of w)
  by_version None = refl
  by_version (Some v) = refl

  pub rows-ordered : {K I : Type 0} (part : Part K V I) → IsInOrder part → AreInOrder (rows_in item_of part)
  rows-ordered (All entries) h = sorted-kept (λ (v : V). row_of (item_of v)) entries h
  rows-ordered (Named noted) h = sorted-kept (row_named item_of) noted h

  pub rows-shown : {K I : Type 0} (part : Part K V I) (key : Text) → IsInOrder part
      → at_name (rows_in item_of part) key
      ≡ option_and_then row_of (option_and_then (option_map item_of) (seen_in part key))
  rows-shown (All entries) key h =
      at-kept (λ (v : V). row_of (item_of v)) key entries h ∙ by_version (at_name entries key)
  rows-shown (Named noted) key h = at-kept (row_named item_of) key noted h ∙ by_item (at_name noted key)
