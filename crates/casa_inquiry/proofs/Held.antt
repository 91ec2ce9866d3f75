-- flights put down in the rows of the slots that they have
use Rattle.std.proofs.Common.{◌≡◌, ℕ, ◌+◌, ◌-◌, ◌<◌, ◌≤◌, ◌==◌, ◌∙◌, sym, ap, refl, inl, inr, List, [], ◌∷◌, ◌++◌, length, drop, get_or, map, set, take, Bool, false, Option, None, Some, Vec, arith}
use Rattle.std.specs.Prelude.{if◌then◌else◌}
use Rattle.std.specs.List.{cons_option, filter_map}
use Rattle.std.specs.Option.{option_and_then, option_map_or}
use Rattle.std.specs.declared.alloc.Global.{Global}
use Rattle.std.proofs.lemmas.Bool.{cases_eq, eq-eqb, ne_eqb}
use Rattle.std.proofs.lemmas.List.{append-nil, get_or-map, get_or-set_other, get_or-set_same, length-map, map-set, take_more}
use Rattle.std.proofs.Math.Seq.{take-append_seam}
use Rattle.std.proofs.lemmas.List.Elements.{filter_map-append}
use Rattle.casa_grid.specs.declared.slot.Place.{Place}
use Rattle.casa_grid.specs.declared.slot.Place.TheVariants.{Slot, Over}
use Rattle.casa_flight.specs.declared.row.Stance.{Stance}
use Rattle.casa_filing.specs.Text.{Text}
use Rattle.casa_flight.specs.Assignment.{is_slot}
use Rattle.casa_flight.specs.Listing.{Listing}
use Rattle.casa_list.specs.Standings.{governed_place}
use Rattle.casa_inquiry.specs.declared.why.Holding.{Holding}
use Rattle.casa_inquiry.specs.Why.{AreHeld, held, held_by, held_in, slot_held, slot_in, slot_with}

-- what is in a row
abbrev in_row : Vec Holding Global → List Holding
in_row row = row.items

-- so many rows have those of these flights that have their slots
pub record AreHeldSoFar (l : Listing) (from until : ℕ) (es : List (Text × Stance)) (rows : List (Vec Holding Global)) : Type 0 where
  pub number : length rows ≡ until - from
  pub held : AreHeld l from es rows

-- what is in a row, by the row
pub row_items : (rows : List (Vec Holding Global)) (at : ℕ) (row : Vec Holding Global) → at < length rows → (get_or rows at row).items ≡ held_in rows at
row_items rows at row lt = sym (get_or-map in_row rows at row [] lt)

-- and so what is in the row of a slot, once all flights are put down
pub row_of_slot : (l : Listing) (from until slot : ℕ) (rows : List (Vec Holding Global)) (row : Vec Holding Global) → from ≤ slot → slot < until → length rows ≡ until - from → AreHeld l from l.flights rows
    → row ≡ get_or rows (slot - from) row → row.items ≡ held l slot
row_of_slot l from until slot rows row low high len all is =
    let there : from + (slot - from) ≡ slot = omega arith in
    ap in_row is ∙ row_items rows (slot - from) row (omega arith) ∙ all (slot - from) (omega arith) ∙ ap (held l) there

-- whether a place is this slot, by the slot of the place
by_slot : (k : ℕ) (place : Option Place) → option_map_or (is_slot k) place false ≡ option_map_or (λ (slot : ℕ). k == slot) (option_and_then slot_in place) false
by_slot k None = refl
by_slot k (Some (Slot slot)) = refl
by_slot k (Some Over) = refl

module _ (l : Listing) (e : Text × Stance) where
  abbrev holding : ℕ → Bool → Option Holding
  holding k has = if has then Some (slot_with l k (Some e)) else None

  by_slot_held : (k : ℕ) (held : Option ℕ) → slot_held l e.0 ≡ held → held_by l k e ≡ holding k (option_map_or (λ (slot : ℕ). k == slot) held false)
  by_slot_held k held is =
      ap (holding k) (by_slot k (governed_place l e.0) ∙ ap (λ (o : Option ℕ). option_map_or (λ (slot : ℕ). k == slot) o false) is)

  -- a flight that has no slot, or another one, and one that has this slot
  pub held_nowhere : (k : ℕ) → slot_held l e.0 ≡ None → held_by l k e ≡ None
  held_nowhere k is = by_slot_held k None is

  pub held_elsewhere : (k slot : ℕ) → slot_held l e.0 ≡ Some slot → (k ≡ slot → ⊥) → held_by l k e ≡ None
  held_elsewhere k slot is other = by_slot_held k (Some slot) is ∙ ap (holding k) (ne_eqb k slot other)

  held_here : (k slot : ℕ) → slot_held l e.0 ≡ Some slot → k ≡ slot → held_by l k e ≡ Some (slot_with l k (Some e))
  held_here k slot is here = by_slot_held k (Some slot) is ∙ ap (holding k) (eq-eqb k slot here)

  -- such a flight leaves a row as it is
  pub row_stays : (k : ℕ) (row : List Holding) → held_by l k e ≡ None → row ≡ row ++ filter_map (held_by l k) (e ∷ [])
  row_stays k row none = sym (ap (λ (o : Option Holding). row ++ cons_option o []) none ∙ append-nil row)

  -- and the other goes into its row, behind those that are there
  pub row_grows : (from slot : ℕ) (rows : List (Vec Holding Global)) (row : Vec Holding Global) → from ≤ slot → slot - from < length rows → slot_held l e.0 ≡ Some slot
      → row.items ≡ held_in rows (slot - from) ++ slot_with l slot (Some e) ∷ []
      → (k : ℕ) → k < length rows → held_in (set rows (slot - from) row) k ≡ held_in rows k ++ filter_map (held_by l (from + k)) (e ∷ [])
  row_grows from slot rows row low high is grown k lt =
      let at : ℕ = slot - from in
      let written : held_in (set rows at row) k ≡ get_or (set (map in_row rows) at row.items) k [] =
      ap (λ rs. get_or rs k []) (map-set in_row rows at row) in
      let long : length (map in_row rows) ≡ length rows = length-map rows in_row in
      elim (cases_eq k at) [
        | inl here ↦
            let own : from + k ≡ slot = omega arith in
            let there : get_or (set (map in_row rows) at row.items) k [] ≡ row.items =
            ap (λ (n : ℕ). get_or (set (map in_row rows) at row.items) n []) here ∙ get_or-set_same (map in_row rows) at row.items [] (omega arith) in
            let same : held_in rows at ++ slot_with l slot (Some e) ∷ [] ≡ held_in rows k ++ slot_with l (from + k) (Some e) ∷ [] =
            ap (λ (n : ℕ). held_in rows n ++ slot_with l slot (Some e) ∷ []) (sym here) ∙ ap (λ (s : ℕ). held_in rows k ++ slot_with l s (Some e) ∷ []) (sym own) in
            written ∙ there ∙ grown ∙ same ∙ sym (ap (λ (o : Option Holding). held_in rows k ++ cons_option o []) (held_here (from + k) slot is own))
        | inr other ↦
            let off : from + k ≡ slot → ⊥ = λ p. other (omega arith) in
            written ∙ get_or-set_other (map in_row rows) at k row.items [] other ∙ row_stays (from + k) (held_in rows k) (held_elsewhere (from + k) slot is off)
      ]

-- a slice of the whole, after a write
pub whole : {X : Type 0} (n : ℕ) (xs ys : List X) → length ys ≡ length xs → n ≡ length xs → take n (ys ++ drop (length ys) xs) ≡ ys
whole n xs ys same len = ap (λ m. take m (ys ++ drop (length ys) xs)) (len ∙ sym same) ∙ take-append_seam ys (drop (length ys) xs)

-- the flight behind the first ones is put down too
pub one_more_held : {X Y : Type 0} (f : X → Option Y) (xs : List X) (i : ℕ) (x : X) (before after : List Y) → i < length xs → x ≡ get_or xs i x
    → before ≡ filter_map f (take i xs) → after ≡ before ++ filter_map f (x ∷ []) → after ≡ filter_map f (take (i + 1) xs)
one_more_held f xs i x before after lt is so more =
    more ∙ ap (λ ys. ys ++ filter_map f (x ∷ [])) so ∙ sym (filter_map-append f (take i xs) (x ∷ []))
    ∙ ap (λ y. filter_map f (take i xs ++ y ∷ [])) is ∙ ap (filter_map f) (sym (take_more xs i x lt))
