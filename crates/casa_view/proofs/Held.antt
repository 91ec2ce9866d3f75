-- all versions of a view are the present ones
use Rattle.std.proofs.Common.{◌≡◌, ℕ, Bool, true, false, refl, sym, ap, ◌∙◌, subst, Option, None, Some, unwrap_or}
use Rattle.std.specs.Prelude.{◌↔◌, IsTrue, MatchOption}
use Rattle.std.specs.Option.{option_map}
use Rattle.casa_flight.specs.Good.{AreInOrder}
use Rattle.casa_footprint.specs.Items.{ItemName, the_clock, the_catalogue, a_row, a_list, Content, contents}
use Rattle.casa_item.specs.declared.item.Item.{Item}
use Rattle.casa_view.specs.declared.items.Items.{Items}
use Rattle.casa_view.specs.declared.view.View.{View}
use Rattle.casa_item.specs.Versions.{Versions, content_as, shown_state}
use Rattle.casa_view.specs.BoardState.{IsGoodBoard, board_state}
use Rattle.casa_view.specs.Board.{versions}
use Rattle.casa_table.specs.Same.{same_version}
use Rattle.casa_view.specs.View.{seen, same_held, IsSamePart, ShowsPart, IsCurrent, ShowsSame, Shows}
use Rattle.casa_view.specs.Applied.{contains}

held_same : {V : Type 0} (is_same : V → V → Bool) (m : V) (o : Option V) (w : Option V) → same_held is_same m o ≡ true
    → option_map Some o ≡ Some w → same_version is_same (Some m) w ≡ true
held_same is_same m None w h e = cc
held_same {V} is_same m (Some n) w h e =
    subst (λ (x : Option V). same_version is_same (Some m) x ≡ true)
    (ap (λ (o : Option (Option V)). unwrap_or o None) e) h

same_back : {V : Type 0} (is_same : V → V → Bool) (m : V) (o : Option V)
    → ((w : Option V) → option_map Some o ≡ Some w → same_version is_same (Some m) w ≡ true)
    → same_held is_same m o ≡ true
same_back is_same m None h = refl
same_back is_same m (Some n) h = h (Some n) refl

held_shows : {V W : Type 0} (item_of : V → W) (m : V) (o : Option V) (w : Option V)
    → MatchOption o (Unit {0}) (λ n. item_of m ≡ item_of n) → option_map Some o ≡ Some w
    → option_map item_of (Some m) ≡ option_map item_of w
held_shows item_of m None w h e = cc
held_shows {V} item_of m (Some n) w h e =
    ap Some h ∙ ap (λ (o : Option (Option V)). option_map item_of (unwrap_or o None)) e

-- what answers no where something that must hold does not
pub refused : {A : Type 0} (b : Bool) → b ≡ false → (A → IsTrue b) → IsTrue false ↔ A
refused b e f = (λ t. cc, λ a. sym e ∙ f a)

module _ {V : Type 0} (is_same : V → V → Bool) (b : Items V) (v : View V) where
  pub clock_held : IsCurrent is_same (versions b) v → same_held is_same b.clock v.clock ≡ true
  clock_held current = same_back is_same b.clock v.clock (current the_clock)

  pub catalogue_held : IsCurrent is_same (versions b) v → same_held is_same b.catalogue v.catalogue ≡ true
  catalogue_held current = same_back is_same b.catalogue v.catalogue (current the_catalogue)

  pub all_held : same_held is_same b.clock v.clock ≡ true → same_held is_same b.catalogue v.catalogue ≡ true
      → IsSamePart is_same b.rows.entries v.rows → IsSamePart is_same b.lists.entries v.lists
      → IsCurrent is_same (versions b) v
  all_held clock catalogue rows lists the_clock w e = held_same is_same b.clock v.clock w clock e
  all_held clock catalogue rows lists the_catalogue w e = held_same is_same b.catalogue v.catalogue w catalogue e
  all_held clock catalogue rows lists (a_row key) w e = rows key w e
  all_held clock catalogue rows lists (a_list id) w e = lists id w e

pub shows_same : {V W : Type 0} (item_of : V → W) (b : Items V) (v : View V)
    → MatchOption v.clock (Unit {0}) (λ n. item_of b.clock ≡ item_of n)
    → MatchOption v.catalogue (Unit {0}) (λ n. item_of b.catalogue ≡ item_of n)
    → ShowsPart item_of b.rows.entries v.rows → ShowsPart item_of b.lists.entries v.lists
    → ShowsSame item_of (versions b) v
shows_same item_of b v c k x y the_clock w e = held_shows item_of b.clock v.clock w c e
shows_same item_of b v c k x y the_catalogue w e = held_shows item_of b.catalogue v.catalogue w k e
shows_same item_of b v c k x y (a_row q) w e = x q w e
shows_same item_of b v c k x y (a_list q) w e = y q w e

-- a view whose versions show the items as they now stand shows the state
shown_some : {V : Type 0} (item_of : V → Item) (i : ItemName) (o : Option (Option V)) (x : Content)
    → option_map (λ (w : Option V). content_as i (option_map item_of w)) o ≡ Some x → (y : Content)
    → ((w : Option V) → o ≡ Some w → y ≡ content_as i (option_map item_of w)) → y ≡ x
shown_some item_of i None x e y h = cc
shown_some item_of i (Some w) x e y h = h w refl ∙ ap (λ (o : Option Content). unwrap_or o x) e

pub same_shows : {V : Type 0} (item_of : V → Item) (stamp_of : V → ℕ) (vs : Versions V) (v : View V) → AreInOrder vs.rows
    → IsGoodBoard (board_state item_of stamp_of vs) → ShowsSame item_of vs v → Shows item_of (shown_state item_of vs) v
same_shows {V} item_of stamp_of vs v order well h i x e =
    shown_some item_of i (seen v i) x e (contents (shown_state item_of vs) i)
    (λ w f. sym (contains item_of stamp_of vs order well i) ∙ ap (content_as i) (h i w f))
