-- inner contracts: the versions that a change makes ready
use Rattle.std.specs.Prelude.{◌≡◌, ℕ, List, Option, None, Some}
use Rattle.std.specs.List.{AllZip}
use Rattle.casa_flight.specs.declared.row.Row.{Row}
use Rattle.std.specs.Option.{option_and_then, option_map, option_or}
use Rattle.casa_filing.specs.Text.{Text, at_name}
use Rattle.casa_plan_spec.specs.Sight.{Stand, Written, with_flight}
use Rattle.casa_flight.specs.Listing.{Listing}
use Rattle.casa_flight.specs.Good.{AreInOrder}
use Rattle.casa_item.specs.declared.item.Item.{Item}
use Rattle.casa_item.specs.Versions.{moment_of, regulations_of, row_of, list_of}
use Rattle.casa_table.specs.Laid.{with_changes}

-- the same names in the same order, and under each a pair that goes together
abbrev pub AreAlike : {X Y : Type 0} → (X → Y → Type 0) → List (Text × X) → List (Text × Y) → Type 0
AreAlike {X} {Y} Goes es ws = AllZip (λ (e : Text × X) (w : Text × Y). (w.0 ≡ e.0) × Goes e.1 w.1) es ws

-- what a change has of a list, if it has anything, where the lists stand so before it: as a flight is to stand there, or else as
-- it is written
abbrev pub listed : (Text → Option Listing) → Written → Text → Option (Option Listing)
listed lists d q =
    option_or
    (option_map (λ (s : Stand). option_map (λ (l : Listing). with_flight l s.0 s.1) (lists q)) (at_name d.stands q))
    (at_name d.lists q)

-- the list under an identifier, among versions
abbrev pub list_among : {V : Type 0} → (V → Item) → List (Text × V) → Text → Option Listing
list_among item_of vs id = option_and_then (λ v. list_of (item_of v)) (at_name vs id)

module _ {V : Type 0} (item_of : V → Item) (stamp_of : V → ℕ) (position : ℕ) where
  -- a version that the entry at this position writes, whose item contains this
  abbrev pub IsVersionWith : {X : Type 0} → (Item → X) → X → V → Type 0
  IsVersionWith part x v = (part (item_of v) ≡ x) × (stamp_of v ≡ position)

  -- the version of what comes, if something does
  abbrev pub NextOne : {X : Type 0} → (Item → X) → Option X → Option V → Type 0
  NextOne part None None = Unit {0}
  NextOne part None (Some v) = ⊥
  NextOne part (Some x) None = ⊥
  NextOne part (Some x) (Some v) = IsVersionWith part x v

  -- an absent row has no version
  abbrev pub NextRow : Option Row → Option V → Type 0
  NextRow None None = Unit {0}
  NextRow None (Some v) = ⊥
  NextRow (Some row) None = ⊥
  NextRow (Some row) (Some v) = IsVersionWith row_of (Some row) v

  -- a list that is absent has one too
  abbrev pub NextList : Option Listing → Option V → Type 0
  NextList list None = ⊥
  NextList list (Some v) = IsVersionWith list_of list v

  -- what is among versions under a name behind what was there: the list with a flight standing so, if one is to stand so in it
  abbrev pub NextStand : (Text → Option Listing) → Text → Option Stand → Option (Option V) → Option (Option V) → Type 0
  NextStand lists q None was now = now ≡ was
  NextStand lists q (Some s) was None = ⊥
  NextStand lists q (Some s) was (Some v) = NextList (option_map (λ (l : Listing). with_flight l s.0 s.1) (lists q)) v

  -- the version under a name once a list is written, if one is; else what was there
  abbrev pub TurnsTo : Option (Option Listing) → Option V → Option V → Type 0
  TurnsTo None was now = now ≡ was
  TurnsTo (Some list) was None = ⊥
  TurnsTo (Some list) was (Some v) = IsVersionWith list_of list v

-- what a change writes besides lists is made ready: of the clock and the catalogue what comes, if something does, and of the rows
-- what is laid over these entries
pub record OthersAreReady {V : Type 0} (item_of : V → Item) (stamp_of : V → ℕ) (position : ℕ) (d : Written)
    (next_clock next_catalogue : Option V) (entries next : List (Text × V)) : Type 0 where
  pub clock : NextOne item_of stamp_of position moment_of d.clock next_clock
  pub catalogue : NextOne item_of stamp_of position regulations_of d.catalogue next_catalogue
  pub rows : List (Text × Option V)
  pub in_order : AreInOrder rows
  pub alike : AreAlike (NextRow item_of stamp_of position) d.rows rows
  pub laid : next ≡ with_changes rows entries
