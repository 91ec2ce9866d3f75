-- what is asked of versions is asked of the rows that they show
use Rattle.std.proofs.Common.{◌≡◌, List, [], ◌∷◌, refl, ap, Option, None, Some}
use Rattle.std.specs.Option.{option_and_then, option_map}
use Rattle.std.specs.List.{cons_option}
use Rattle.casa_filing.specs.Text.{Text}
use Rattle.casa_flight.specs.Listing.{filter_map_values}

pub asked-asked : {X Y Z : Type 0} (f : Y → Option Z) (g : X → Option Y) (o : Option X)
    → option_and_then f (option_and_then g o) ≡ option_and_then (λ (x : X). option_and_then f (g x)) o
asked-asked f g None = refl
asked-asked f g (Some x) = refl

pub kept-kept : {X Y Z : Type 0} (f : Y → Option Z) (g : X → Option Y) (es : List (Text × X))
    → filter_map_values f (filter_map_values g es) ≡ filter_map_values (λ (x : X). option_and_then f (g x)) es
kept-kept f g [] = refl
kept-kept {X} {Y} {Z} f g (e ∷ es) = by (g e.1) _ _ (kept-kept f g es)
  where
    by : (o : Option Y) (ys : List (Text × Y)) (zs : List (Text × Z)) → filter_map_values f ys ≡ zs
        → filter_map_values f (cons_option (option_map (λ (y : Y). (e.0, y)) o) ys)
        ≡ cons_option (option_map (λ (z : Z). (e.0, z)) (option_and_then f o)) zs
    by None ys zs h = h
    by (Some y) ys zs h = ap (λ (zs : List (Text × Z)). cons_option (option_map (λ (z : Z). (e.0, z)) (f y)) zs) h
