-- to believe: lists that are changed where they lie, so that a flight stands in each as is said
use Rattle.std.specs.Prelude.{◌≡◌, ℕ, List, Bool, true, false, Option, Some, None, Result, Ok, Err}
use Rattle.std.specs.Map.{keys_of, set_value}
use Rattle.std.specs.BTreeMap.{is_at}
use Rattle.std.specs.Cmp.Lexicographic.{slice_cmp}
use Rattle.std.specs.Ordering.{nat_cmp}
use Rattle.casa_filing.specs.Text.{Text, at_name}
use Rattle.casa_flight.specs.Listing.{Listing}
use Rattle.casa_plan_spec.specs.Sight.{Stand, with_flight}
use Rattle.casa_item.specs.declared.item.Item.{Item}
use Rattle.casa_item.specs.Versions.{list_of}

-- the one where it was done; the other where it was not, or memory was refused
abbrev pub DoneOr : {E : Type 0} → Result Bool E → Type 0 → Type 0 → Type 0
DoneOr (Ok true) Done Kept = Done
DoneOr (Ok false) Done Kept = Kept
DoneOr (Err e) Done Kept = Kept

-- inner: the entries, with this one in place of the one of that name, if there is one
abbrev pub in_place : {X : Type 0} → List (Text × X) → Text → X → List (Text × X)
in_place es name x = set_value (is_at (slice_cmp nat_cmp name)) es x

-- an item of a list, and the one in its place: of the list with a flight standing so
pub record IsListWith (s : Stand) (was now : Item) : Type 0 where
  pub list : Listing
  pub was_list : list_of was ≡ Some list
  pub now_list : list_of now ≡ Some (with_flight list s.0 s.1)

-- such versions, the one in its place written at this position
pub record IsStood {V : Type 0} (item_of : V → Item) (stamp_of : V → ℕ) (position : ℕ) (s : Stand) (was now : V) : Type 0 where
  pub item : IsListWith s (item_of was) (item_of now)
  pub stamp : stamp_of now ≡ position

-- there were such versions
pub record IsStoodAt {V : Type 0} (item_of : V → Item) (stamp_of : V → ℕ) (position : ℕ) (s : Stand) (before now : Option V) : Type 0 where
  pub version : V
  pub written : V
  pub was : before ≡ Some version
  pub is : now ≡ Some written
  pub stood : IsStood item_of stamp_of position s version written

-- each list in which a flight is to stand so was there, and is now such; all others are as they were
pub record AreStood {V : Type 0} (item_of : V → Item) (stamp_of : V → ℕ) (position : ℕ) (stands : List (Text × Stand)) (before now : List (Text × V)) : Type 0 where
  pub names : keys_of now ≡ keys_of before
  pub stood : (q : Text) (s : Stand) → at_name stands q ≡ Some s → IsStoodAt item_of stamp_of position s (at_name before q) (at_name now q)
  pub others : (q : Text) → at_name stands q ≡ None → at_name now q ≡ at_name before q
