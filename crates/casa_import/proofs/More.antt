-- One row more.
use Rattle.std.proofs.Common.{◌≡◌, ◌∙◌, ℕ, ◌+◌, ◌<◌, List, [], ◌∷◌, ◌++◌, length, get_or, take, refl, sym, ap}
use Rattle.std.specs.Prelude.{Option, None, Some, option_to_list}
use Rattle.std.specs.List.{cons_option, filter_map}
use Rattle.std.proofs.lemmas.List.{take_more}
use Rattle.std.proofs.lemmas.List.Elements.{filter_map-append}

one_or_none : {Y : Type 0} (o : Option Y) → cons_option o [] ≡ option_to_list o
one_or_none None = refl
one_or_none (Some y) = refl

-- what is made of one element more
pub filter_map_more : {X Y : Type 0} (f : X → Option Y) (xs : List X) (i : ℕ) (x : X) → i < length xs → x ≡ get_or xs i x
    → filter_map f (take (i + 1) xs) ≡ filter_map f (take i xs) ++ option_to_list (f x)
filter_map_more f xs i x within is =
    ap (filter_map f) (take_more xs i x within) ∙ filter_map-append f (take i xs) (get_or xs i x ∷ []) ∙ ap (λ o. filter_map f (take i xs) ++ o) (one_or_none (f (get_or xs i x)))
    ∙ ap (λ y. filter_map f (take i xs) ++ option_to_list (f y)) (sym is)
