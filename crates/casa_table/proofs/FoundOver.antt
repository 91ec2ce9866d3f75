-- no flight that is subject to a regulation is left out
use Rattle.std.proofs.Common.{◌≡◌, ℕ, ◌≤◌, List, [], ◌∷◌, ◌++◌, true, false, ◌||◌, refl, sym, ap, ◌∙◌, Option, None, Some, cond}
use Rattle.std.specs.Ordering.{is_eq}
use Rattle.std.specs.Option.{option_and_then}
use Rattle.std.specs.Map.{keys_of}
use Rattle.casa_filing.specs.declared.regulation.Regulation.{Regulation}
use Rattle.casa_flight.specs.declared.row.Row.{Row}
use Rattle.casa_filing.specs.Text.{Text, at_name}
use Rattle.casa_flight.specs.Good.{AreInOrder}
use Rattle.casa_filing.proofs.Entries.{text_cmp}
use Rattle.casa_laws.proofs.Kept.{at-kept}
use Rattle.casa_item.specs.declared.item.Item.{Item}
use Rattle.casa_item.specs.Gathered.{is_named}
use Rattle.casa_item.specs.Versions.{row_of}
use Rattle.casa_table.specs.declared.flights.Passing.{Passing}
use Rattle.casa_table.specs.Flights.{rows_of, row_named, rows_named, row_where}
use Rattle.casa_table.specs.Laid.{with_changes}
use Rattle.casa_table.specs.Passing.{over_row, HavePassings, in_span, names}
use Rattle.casa_table.proofs.Answered.{asked-asked}
use Rattle.casa_table.proofs.LaidFound.{row_under, all_found}
use Rattle.casa_table.proofs.Layers.{sorted-laid}
use Rattle.casa_table.proofs.Over.{row_over}

-- of those with passings in the span of the regulation, and those that changed
pub changed_over : {V : Type 0} (item_of : V → Item) (r : Regulation) (t : ℕ) (ps : Text → List Passing)
    (ws : List (Text × Option V)) (es now : List (Text × V)) → AreInOrder es → with_changes ws es ≡ now → r.end ≤ t
    → HavePassings (row_where item_of (at_name es)) ps
    → (q : Text) (y : ℕ) → option_and_then (over_row r) (at_name (rows_of item_of now) q) ≡ Some y
    → is_named (keys_of ws ++ names (in_span r t (ps r.loc))) q ≡ true
changed_over {V} item_of r t ps ws es now sorted laid late have q y h =
    all_found (λ (v : V). option_and_then (over_row r) (shown v)) ws es (names (in_span r t (ps r.loc))) sorted
    (λ q y h. row_over r t (row_where item_of (at_name es)) ps late have q y (asked-asked (over_row r) shown (at_name es q) ∙ h))
    q y
    (sym (asked-asked (over_row r) shown (at_name (with_changes ws es) q))
    ∙ ap (option_and_then (over_row r)) (sym (row_under item_of q (with_changes ws es) (sorted-laid ws es sorted)))
    ∙ ap (λ (vs : List (Text × V)). option_and_then (over_row r) (at_name (rows_of item_of vs) q)) laid ∙ h)
  where
    shown : V → Option Row
    shown v = row_of (item_of v)

-- of some by their names
has_name : {X : Type 0} (es : List (Text × X)) (q : Text) (x : X) → at_name es q ≡ Some x → is_named (keys_of es) q ≡ true
has_name [] q x h = cc
has_name {X} (e ∷ es) q x h =
    elim (is_eq (text_cmp q e.0)) as (λ b. cond b (Some e.1) (at_name es q) ≡ Some x → (b || is_named (keys_of es) q) ≡ true) [
      | true ↦ λ _. refl
      | false ↦ λ g. has_name es q x g
    ] h

pub named_over : {V : Type 0} (item_of : V → Item) (r : Regulation) (rows : List (Text × Option V)) → AreInOrder rows
    → (q : Text) (y : ℕ) → option_and_then (over_row r) (at_name (rows_named item_of rows) q) ≡ Some y
    → is_named (keys_of rows) q ≡ true
named_over {V} item_of r rows sorted q y h =
    by (at_name rows q) refl (sym (ap (option_and_then (over_row r)) (at-kept (row_named item_of) q rows sorted)) ∙ h)
  where
    by : (o : Option (Option V)) → at_name rows q ≡ o
        → option_and_then (over_row r) (option_and_then (row_named item_of) o) ≡ Some y → is_named (keys_of rows) q ≡ true
    by None there g = cc
    by (Some w) there g = has_name rows q w there
