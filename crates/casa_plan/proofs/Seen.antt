-- a view for a call shows what the call reads, in every good state that shows the view
use Rattle.std.proofs.Common.{◌≡◌, Bool, true, false, refl, sym, ap, ◌∙◌, cond, Option, None, Some}
use Rattle.std.specs.Option.{option_map, option_and_then}
use Rattle.casa_flight.specs.declared.call.Call.{Call}
use Rattle.casa_flight.specs.declared.state.State.{State}
use Rattle.casa_flight.specs.State.{row_of, catalogue}
use Rattle.casa_flight.specs.Listing.{list_of}
use Rattle.casa_flight.specs.Good.{IsGood}
use Rattle.casa_laws.proofs.Kept.{same_entries}
use Rattle.casa_footprint.specs.Items.{ItemName, the_clock, the_catalogue, a_row, a_list, contents, AgreeOn}
use Rattle.casa_footprint.specs.Footprint.{reads}
use Rattle.casa_footprint.proofs.EachCall.{reads_same}
use Rattle.casa_item.specs.declared.item.Item.{Item}
use Rattle.casa_item.specs.Versions.{content_as, list_of as list_of_item}
use Rattle.casa_view.specs.declared.view.View.{View}
use Rattle.casa_view.specs.View.{seen, content_shown, Shows, IsViewOf, IsFor}
use Rattle.casa_view.specs.Shown.{HasRowsInOrder}
use Rattle.casa_view.proofs.Reading.{clock-is, catalogue-is, row-is, list-is}
use Rattle.casa_view.proofs.ViewRows.{rows-ordered, rows-shown}
use Rattle.casa_view.proofs.ViewLists.{lists-shown}
use Rattle.casa_plan_spec.specs.Sight.{IsSightOf, list_in}
use Rattle.casa_plan.specs.Seen.{sight}
use Rattle.casa_plan.specs.WholeLists.{AreAsShown}

module _ {V : Type 0} (item_of : V → Item) (v : View V) where
  held : (m : State) (call : Call) → IsViewOf item_of m call v → (i : ItemName) → reads m call i ≡ true
      → content_shown item_of v i ≡ Some (contents m i)
  held m call is i e = is i ∙ ap (λ (b : Bool). cond b (Some (contents m i)) None) e

  -- a view of one state is one of each good state that shows it
  view_of_each : (call : Call) (m : State) → IsFor item_of v call → IsGood m → Shows item_of m v → IsViewOf item_of m call v
  view_of_each call m for good shows i =
      for.2 i ∙ by (reads for.0 call i) refl ∙ ap (λ (b : Bool). cond b (Some (contents m i)) None) (reads_same call for.0 m for.1 good agree i)
    where
      agree : AgreeOn (reads for.0 call) for.0 m
      agree i e = sym (shows i (contents for.0 i) (held for.0 call for.2 i e))

      by : (b : Bool) → reads for.0 call i ≡ b → cond b (Some (contents for.0 i)) None ≡ cond b (Some (contents m i)) None
      by true e = ap Some (agree i e)
      by false e = refl

  pub sight_of : (m : State) (call : Call) → IsGood m → HasRowsInOrder v → IsViewOf item_of m call v → IsSightOf m call (sight item_of v)
  sight_of m call good ordered is = record {
    clock = λ e. ap Some (clock-is item_of v m.clock (held m call is the_clock e));
    catalogue = λ e. ap Some (catalogue-is item_of v (catalogue m) (held m call is the_catalogue e));
    row = λ key e. rows-shown item_of v.rows key ordered ∙ row-is item_of v key (row_of m key) (held m call is (a_row key) e);
    list = λ id e. lists-shown item_of v.lists id ∙ list-is item_of v id (list_of m id) (held m call is (a_list id) e);
    rows = λ all. same_entries _ m.rows (rows-ordered item_of v.rows ordered) good.rows_in_order
        (λ key. rows-shown item_of v.rows key ordered ∙ row-is item_of v key (row_of m key) (held m call is (a_row key) (all key)));
  }

  pub seen_of_each : (call : Call) (m : State) → IsFor item_of v call → HasRowsInOrder v → IsGood m → Shows item_of m v
      → IsSightOf m call (sight item_of v)
  seen_of_each call m for ordered good shows = sight_of m call good ordered (view_of_each call m for good shows)

  -- the lists that it shows are those of each state that shows the view
  pub lists_of_each : (m : State) → Shows item_of m v → AreAsShown (sight item_of v) (list_of m)
  lists_of_each m shows id l shown = by (seen v (a_list id)) refl
    where
      by : (o : Option (Option V)) → seen v (a_list id) ≡ o → list_of m id ≡ Some l
      by None absent =
          let none : list_in (sight item_of v) id ≡ None =
          lists-shown item_of v.lists id ∙ ap (λ (o : Option (Option V)). option_and_then list_of_item (option_and_then (option_map item_of) o)) absent in
          cc
      by (Some w) held =
          let is : content_shown item_of v (a_list id) ≡ Some (content_as (a_list id) (option_map item_of w)) =
          ap (option_map (λ (w : Option V). content_as (a_list id) (option_map item_of w))) held in
          sym (list-is item_of v id (list_of m id) (is ∙ ap Some (sym (shows (a_list id) _ is)))) ∙ sym (lists-shown item_of v.lists id) ∙ shown
