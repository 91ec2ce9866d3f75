-- inner contracts: what a view of a board shows to a planner
use Rattle.std.specs.Prelude.{[], Some, unwrap_or}
use Rattle.casa_item.specs.declared.item.Item.{Item}
use Rattle.casa_view.specs.declared.view.View.{View}
use Rattle.casa_view.specs.Shown.{clock_shown, catalogue_shown, rows_shown, lists_shown}
use Rattle.casa_plan_spec.specs.Sight.{Sight}

-- what a view shows to a planner: of a clock or a catalogue that it does not hold midnight and no regulation
abbrev pub sight : {V : Type 0} → (V → Item) → View V → Sight
sight item_of v = record {
  clock = Some (unwrap_or (clock_shown item_of v) 0);
  catalogue = Some (unwrap_or (catalogue_shown item_of v) []);
  rows = rows_shown item_of v;
  lists = lists_shown item_of v;
}
