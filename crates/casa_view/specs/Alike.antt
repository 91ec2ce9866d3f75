-- for proofs: boards with the same versions
use Rattle.std.proofs.Common.{◌≡◌, ℕ, ◌↔◌, Bool, sym, ap, subst, Option}
use Rattle.casa_footprint.specs.Items.{ItemName, Content}
use Rattle.casa_item.specs.declared.item.Item.{Item}
use Rattle.casa_view.specs.declared.view.View.{View}
use Rattle.casa_item.specs.Versions.{Versions}
use Rattle.casa_view.specs.BoardState.{board_state}
use Rattle.casa_view.specs.Change.{IsApplied}
use Rattle.casa_view.specs.View.{IsCurrent}

module _ {V : Type 0} (w x : Versions V) (same : x ≡ w) where
  pub like_applied : (item_of : V → Item) (stamp_of : V → ℕ) (says : Versions V → ItemName → Option Content) (n : ℕ)
      (y : Versions V) → IsApplied item_of stamp_of (says x) n x y → IsApplied item_of stamp_of (says w) n w y
  like_applied item_of stamp_of says n y =
      subst (λ (vs : Versions V). IsApplied item_of stamp_of (says vs) n vs y) same

  pub like_state : (item_of : V → Item) (stamp_of : V → ℕ) → board_state item_of stamp_of x ≡ board_state item_of stamp_of w
  like_state item_of stamp_of = ap (board_state item_of stamp_of) same

  pub like_views : (is_same : V → V → Bool) (v : View V) → IsCurrent is_same w v ↔ IsCurrent is_same x v
  like_views is_same v = (
    subst (λ (vs : Versions V). IsCurrent is_same vs v) (sym same),
    subst (λ (vs : Versions V). IsCurrent is_same vs v) same,
  )
