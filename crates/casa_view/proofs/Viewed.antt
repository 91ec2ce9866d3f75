-- what a view of a board shows
use Rattle.std.proofs.Common.{◌≡◌, ℕ, Bool, true, false, refl, sym, ap, ◌∙◌, subst, Option, None, Some, unwrap_or}
use Rattle.std.specs.Prelude.{if◌then◌else◌}
use Rattle.std.specs.Option.{option_map}
use Rattle.casa_flight.specs.declared.call.Call.{Call}
use Rattle.casa_flight.specs.Good.{AreInOrder}
use Rattle.casa_footprint.specs.Items.{ItemName, contents}
use Rattle.casa_item.specs.declared.item.Item.{Item}
use Rattle.casa_view.specs.declared.view.View.{View}
use Rattle.casa_item.specs.Versions.{Versions, version_at, content_as, shown_state}
use Rattle.casa_view.specs.BoardState.{IsGoodBoard, board_state}
use Rattle.casa_view.specs.View.{content_shown, IsTaken, IsViewOf, IsCurrent}
use Rattle.casa_view.specs.Taking.{IsRead}
use Rattle.casa_table.specs.Same.{same_version}
use Rattle.casa_view.specs.Applied.{contains}

shown_if : {A B : Type 0} (f : A → B) (x : A) (y : B) → f x ≡ y → (b : Bool)
    → option_map f (if b then Some x else None) ≡ (if b then Some y else None)
shown_if f x y e true = ap Some e
shown_if f x y e false = refl

from_some : {A : Type 0} (x y : A) (b : Bool) → (if b then Some x else None) ≡ Some y → x ≡ y
from_some x y true e = ap (λ o. unwrap_or o x) e
from_some x y false e = cc

same_itself : {V : Type 0} (is_same : V → V → Bool) → ((m : V) → is_same m m ≡ true) → (w : Option V)
    → same_version is_same w w ≡ true
same_itself is_same itself None = refl
same_itself is_same itself (Some m) = itself m

module _ {V : Type 0} (item_of : V → Item) (stamp_of : V → ℕ) (vs : Versions V) (order : AreInOrder vs.rows) where
  shown_taken : IsGoodBoard (board_state item_of stamp_of vs) → (test : ItemName → Bool) (v : View V) → IsTaken vs test v
      → (i : ItemName) → content_shown item_of v i ≡ (if test i then Some (contents (shown_state item_of vs) i) else None)
  shown_taken well test v taken i =
      ap (option_map (λ (w : Option V). content_as i (option_map item_of w))) (taken i)
      ∙ shown_if (λ (w : Option V). content_as i (option_map item_of w)) (version_at vs i)
      (contents (shown_state item_of vs) i) (contains item_of stamp_of vs order well i) (test i)

  -- a view holds what the call reads on a board that stands well
  pub read_view : (call : Call) (v : View V) → IsRead item_of stamp_of vs call v → IsGoodBoard (board_state item_of stamp_of vs)
      → IsViewOf item_of (shown_state item_of vs) call v
  read_view call v read well i =
      shown_taken well read.0 v read.1 i
      ∙ ap (λ (b : Bool). if b then Some (contents (shown_state item_of vs) i) else None) (read.2 well i)

  pub read_current : (is_same : V → V → Bool) → ((m : V) → is_same m m ≡ true) → (call : Call) (v : View V)
      → IsRead item_of stamp_of vs call v → IsCurrent is_same vs v
  read_current is_same itself call v read i w e =
      subst (λ (o : Option V). same_version is_same (version_at vs i) o ≡ true)
      (from_some (version_at vs i) w (read.0 i) (sym (read.1 i) ∙ e)) (same_itself is_same itself (version_at vs i))
