-- what has an index below changes is all found there, but for the names that changed
use Rattle.std.proofs.Common.{◌≡◌, List, [], ◌∷◌, ◌++◌, Bool, true, false, ◌||◌, refl, sym, ap, ◌∙◌, Option, None}
use Rattle.std.proofs.Common.{Some, subst}
use Rattle.std.specs.Ordering.{is_eq}
use Rattle.std.specs.Option.{option_and_then}
use Rattle.std.specs.Map.{keys_of}
use Rattle.std.proofs.lemmas.List.Folds.{list_any-append}
use Rattle.casa_filing.specs.Text.{Text, at_name}
use Rattle.casa_flight.specs.Good.{AreInOrder}
use Rattle.casa_flight.specs.Listing.{filter_map_values}
use Rattle.casa_filing.proofs.Entries.{text_cmp, at-put_other, at-without_other}
use Rattle.casa_laws.proofs.Kept.{at-kept}
use Rattle.casa_item.specs.declared.item.Item.{Item}
use Rattle.casa_item.specs.Versions.{row_of}
use Rattle.casa_item.specs.Gathered.{is_named, HasGathered}
use Rattle.casa_table.specs.Laid.{with_value, with_changes}
use Rattle.casa_table.specs.Flights.{rows_of, row_named}
use Rattle.casa_item.proofs.Gathered.{AreFound, gathered_both, gathered_is}
use Rattle.casa_table.proofs.Layers.{sorted-laid}

at-with_other : {X : Type 0} (q k : Text) (w : Option X) (es : List (Text × X)) → is_eq (text_cmp q k) ≡ false
    → at_name (with_value es k w) q ≡ at_name es q
at-with_other q k None es h = at-without_other q k es h
at-with_other q k (Some x) es h = at-put_other q k x es h

-- a name that did not change has what it had
pub at-laid_other : {X : Type 0} (q : Text) (ws : List (Text × Option X)) (es : List (Text × X))
    → is_named (keys_of ws) q ≡ false → at_name (with_changes ws es) q ≡ at_name es q
at-laid_other q [] es h = refl
at-laid_other {X} q (w ∷ ws) es h =
    elim (is_eq (text_cmp q w.0)) as (λ b. is_eq (text_cmp q w.0) ≡ b → (b || is_named (keys_of ws) q) ≡ false
    → at_name (with_changes (w ∷ ws) es) q ≡ at_name es q) [
      | true ↦ λ t g. cc
      | false ↦ λ t g. at-laid_other q ws (with_value es w.0 w.1) g ∙ at-with_other q w.0 w.1 es t
    ] refl h

-- the row under a name is that of the version there
pub row_under : {V : Type 0} (item_of : V → Item) (q : Text) (es : List (Text × V)) → AreInOrder es
    → at_name (rows_of item_of es) q ≡ row_named item_of (at_name es q)
row_under {V} item_of q es h = at-kept (λ (v : V). row_of (item_of v)) q es h

-- what an index of the values below names, with the names that changed, is all that is kept of the values
module _ {X Y : Type 0} (f : X → Option Y) (ws : List (Text × Option X)) (es : List (Text × X)) (ks : List Text)
    (sorted : AreInOrder es)
    (found : (q : Text) (y : Y) → option_and_then f (at_name es q) ≡ Some y → is_named ks q ≡ true) where
  pub all_found : AreFound f (with_changes ws es) (keys_of ws ++ ks)
  all_found q y h =
      list_any-append (λ (k : Text). is_eq (text_cmp q k)) (keys_of ws) ks ∙ by (is_named (keys_of ws) q) refl
    where
      by : (b : Bool) → is_named (keys_of ws) q ≡ b → (b || is_named ks q) ≡ true
      by true t = refl
      by false t = found q y (ap (option_and_then f) (sym (at-laid_other q ws es t)) ∙ h)

  -- so it is all that is kept, once what has changed is gathered, and then what the index names
  pub all_asked : (now : List (Text × X)) (none changed all : List (Text × Y)) → with_changes ws es ≡ now → none ≡ []
      → HasGathered f now (keys_of ws) none changed → HasGathered f now ks changed all → all ≡ filter_map_values f now
  all_asked now none changed all is nothing =
      subst (λ (now : List (Text × X)). HasGathered f now (keys_of ws) none changed
      → HasGathered f now ks changed all → all ≡ filter_map_values f now) is
      (subst (λ (none : List (Text × Y)). HasGathered f (with_changes ws es) (keys_of ws) none changed
      → HasGathered f (with_changes ws es) ks changed all → all ≡ filter_map_values f (with_changes ws es)) (sym nothing) in_turn)
    where
      in_turn : HasGathered f (with_changes ws es) (keys_of ws) [] changed → HasGathered f (with_changes ws es) ks changed all
          → all ≡ filter_map_values f (with_changes ws es)
      in_turn first second =
          gathered_is f (with_changes ws es) (keys_of ws ++ ks) all (sorted-laid ws es sorted) all_found
          (gathered_both f (with_changes ws es) (keys_of ws) ks [] changed all first second)
