-- `==` of items is equality
use Rattle.std.proofs.Common.{◌≡◌, Bool, true, refl, ap}
use Rattle.std.specs.Prelude.{Option, None, Some}
use Rattle.std.specs.Option.{option_eq}
use Rattle.std.proofs.lemmas.Bool.{and_parts, eqb-true}
use Rattle.casa_grid.proofs.Equal.{pointwise-true}
use Rattle.casa_filing.proofs.Same.{text_same}
use Rattle.casa_flight.proofs.SameRow.{row_same}
use Rattle.casa_list.proofs.Equal.{list_same}
use Rattle.casa_list.specs.Equality.{list_eq}
use Rattle.casa_filing.specs.declared.regulation.Regulation.{Regulation}
use Rattle.casa_filing.specs.contracts.regulation.RegulationPartialEq.TheImpl.{ghosts as regulation}
use Rattle.casa_flight.specs.contracts.row.RowPartialEq.TheImpl.{ghosts as row}
use Rattle.casa_item.specs.declared.item.Item.{Item}
use Rattle.casa_item.specs.declared.item.Item.TheVariants.{Clock, Catalogue, Row as RowOf, List as ListOf}
use Rattle.casa_item.specs.contracts.item.ItemPartialEq.TheImpl.{ghosts as item}

regulation_same : (a b : Regulation) → regulation.eq a b ≡ true → a ≡ b
regulation_same a b h =
    let p = and_parts _ _ h in
    let q = and_parts _ _ p.1 in
    let r = and_parts _ _ q.1 in
    let id_is : a.id ≡ b.id = text_same _ _ p.0 in
    let loc_is : a.loc ≡ b.loc = text_same _ _ q.0 in
    let start_is : a.start ≡ b.start = eqb-true _ _ r.0 in
    let end_is : a.end ≡ b.end = eqb-true _ _ r.1 in
    λ i. record { id = id_is i; loc = loc_is i; start = start_is i; end = end_is i }

option_same : {X : Type 0} (E : X → X → Bool) → ((x y : X) → E x y ≡ true → x ≡ y) → (a b : Option X)
    → option_eq E a b ≡ true → a ≡ b
option_same E same None None h = refl
option_same E same (Some a) (Some b) h = ap Some (same a b h)
option_same E same None (Some b) h = cc
option_same E same (Some a) None h = cc

pub item_same : (a b : Item) → item.eq a b ≡ true → a ≡ b
item_same (Clock a) (Clock b) h = ap Clock (eqb-true a b h)
item_same (Catalogue a) (Catalogue b) h = ap Catalogue (pointwise-true regulation.eq regulation_same a b h)
item_same (RowOf a x) (RowOf b y) h =
    let p = and_parts _ _ h in
    let key_is = text_same a b p.0 in
    let row_is = option_same row.eq row_same x y p.1 in
    λ i. RowOf (key_is i) (row_is i)
item_same (ListOf a x) (ListOf b y) h =
    let p = and_parts _ _ h in
    let id_is = text_same a b p.0 in
    let list_is = option_same list_eq list_same x y p.1 in
    λ i. ListOf (id_is i) (list_is i)
item_same a b h = cc
