-- the lists that a view shows
use Rattle.std.proofs.Common.{◌≡◌, List, [], ◌∷◌, map, Bool, true, false, cond, refl, ap, ◌∙◌, Option, None, Some}
use Rattle.std.specs.Option.{option_map, option_and_then, option_flatten}
use Rattle.std.specs.Ordering.{is_eq}
use Rattle.casa_filing.specs.Text.{Text, at_name}
use Rattle.casa_filing.proofs.Entries.{text_cmp}
use Rattle.casa_item.specs.declared.item.Item.{Item}
use Rattle.casa_item.specs.Versions.{list_of}
use Rattle.casa_view.specs.declared.view.Part.{Part}
use Rattle.casa_view.specs.declared.view.Part.TheVariants.{All, Named}
use Rattle.casa_view.specs.View.{seen_in}
use Rattle.casa_view.specs.Shown.{list_named, lists_in}

at-values : {X Y : Type 0} (f : X → Y) (name : Text) (es : List (Text × X))
    → at_name (map (λ (e : Text × X). (e.0, f e.1)) es) name ≡ option_map f (at_name es name)
at-values f name [] = refl
at-values {X} {Y} f name (e ∷ es) = by (is_eq (text_cmp name e.0)) (at-values f name es)
  where
    by : (b : Bool) → at_name (map (λ (e : Text × X). (e.0, f e.1)) es) name ≡ option_map f (at_name es name)
        → cond b (Some (f e.1)) (at_name (map (λ (e : Text × X). (e.0, f e.1)) es) name)
        ≡ option_map f (cond b (Some e.1) (at_name es name))
    by true h = refl
    by false h = h

module _ {V : Type 0} (item_of : V → Item) where
  by_version : (w : Option V) → option_flatten (option_map (λ (v : V). list_of (item_of v)) w)
      ≡ option_and_then list_of (option_map item_of w)
  by_version None = refl
  by_version (Some v) = refl

  by_item : (w : Option (Option V)) → option_flatten (option_map (list_named item_of) w)
      ≡ option_and_then list_of (option_and_then (option_map item_of) w)
  by_item None = refl
  by_item (Some None) = refl
  by_item (Some (Some v)) = refl

  pub lists-shown : {K I : Type 0} (part : Part K V I) (id : Text) → option_flatten (at_name (lists_in item_of part) id)
      ≡ option_and_then list_of (option_and_then (option_map item_of) (seen_in part id))
  lists-shown (All entries) id =
      ap option_flatten (at-values (λ (v : V). list_of (item_of v)) id entries) ∙ by_version (at_name entries id)
  lists-shown (Named noted) id =
      ap option_flatten (at-values (list_named item_of) id noted) ∙ by_item (at_name noted id)
