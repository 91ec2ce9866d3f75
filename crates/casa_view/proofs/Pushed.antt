-- two maps with the same names, place by place, with one more entry behind each
use Rattle.std.proofs.Common.{◌≡◌, List, [], ◌∷◌, ◌++◌, map, refl, sym, ap, ◌∙◌, subst}
use Rattle.std.specs.declared.cmp.Ordering.{Ordering}
use Rattle.std.specs.declared.cmp.Ordering.TheVariants.{Less, Greater}
use Rattle.std.specs.Ordering.{match_ordering, ordering_reverse}
use Rattle.std.specs.List.Sorted.{IsStrictlySortedBy}
use Rattle.std.proofs.lemmas.Cmp.{nat_list_cmp_total}
use Rattle.casa_filing.specs.Text.{Text, put}
use Rattle.casa_flight.specs.Good.{AreInOrder}
use Rattle.casa_filing.proofs.Entries.{text_cmp}
use Rattle.casa_view.specs.Next.{AreAlike}
use Rattle.casa_table.proofs.Layers.{all-mid}

pub alike_next : {X Y : Type 0} (Q : X → Y → Type 0) (es : List (Text × X)) (ws : List (Text × Y)) (k : Text) (x : X)
    (y : Y)
    (rest : List (Text × X)) → AreInOrder (es ++ (k, x) ∷ rest) → Q x y → AreAlike Q es ws
    → AreAlike Q (es ++ (k, x) ∷ []) (put ws k y)
unfolding IsStrictlySortedBy
alike_next Q [] [] k x y rest order q h = ((refl, q), tt)
alike_next Q [] (w ∷ ws) k x y rest order q h = absurd h
alike_next Q (e ∷ es) [] k x y rest order q h = absurd h
alike_next {X} {Y} Q (e ∷ es) (w ∷ ws) k x y rest order q h =
    let before : text_cmp e.0 k ≡ Less = all-mid (λ t. text_cmp e.0 t ≡ Less) es k x rest order.0 in
    let later : text_cmp k w.0 ≡ Greater =
    ap (text_cmp k) h.0.0 ∙ nat_list_cmp_total.antisymm k e.0 ∙ ap ordering_reverse before in
    subst (λ (r : Ordering). AreAlike Q ((e ∷ es) ++ (k, x) ∷ [])
    (match_ordering r ((k, y) ∷ w ∷ ws) ((w.0, y) ∷ ws) (w ∷ put ws k y)))
    (sym later) (h.0, alike_next Q es ws k x y rest order.1 q h.1)

pub map-last : {X Y : Type 0} (f : X → Y) (xs : List X) (x : X) → map f (xs ++ x ∷ []) ≡ map f xs ++ f x ∷ []
map-last f [] x = refl
map-last {X} {Y} f (y ∷ xs) x = ap (λ (ys : List Y). f y ∷ ys) (map-last f xs x)
