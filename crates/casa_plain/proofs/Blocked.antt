-- which slots the issued times block
use Rattle.std.proofs.Common.{◌≡◌, ◌∙◌, sym, ℕ, List, [], ◌∷◌, false, nat_eq, Option, None, Some, refl}
use Rattle.std.specs.List.{list_any, slice_get}
use Rattle.std.specs.Option.{option_eq, option_map_or}
use Rattle.casa_grid.specs.declared.period.Period.{Period}
use Rattle.casa_grid.specs.declared.slot.Window.{Window}
use Rattle.casa_grid.specs.Profile.{IsProfile}
use Rattle.casa_grid.specs.Slots.{slots, is_within, window_of}
use Rattle.casa_grid.proofs.Held.{is_at, profile_held_at}

is_this : (k : ℕ) (o : Option ℕ) → option_eq nat_eq o (Some k) ≡ is_at k o
is_this k None = refl
is_this k (Some j) = refl

-- a moment's slot is k exactly where the window of slot k holds it
pub in_slot : (ps : List Period) (at k : ℕ) → IsProfile ps → option_eq nat_eq (window_of (slots ps) at) (Some k) ≡ option_map_or (is_within at) (slice_get (slots ps) k) false
in_slot ps at k h = is_this k (window_of (slots ps) at) ∙ sym (profile_held_at ps at k h)

none_in : (times : List ℕ) → list_any (λ (t : ℕ). false) times ≡ false
none_in [] = refl
none_in (t ∷ times) = none_in times

-- that one of the times lies in the window, if there is one, is that one of them lies in the window that there is
pub any_in : (times : List ℕ) (w : Option Window) → list_any (λ (t : ℕ). option_map_or (is_within t) w false) times ≡ option_map_or (λ (v : Window). list_any (λ (t : ℕ). is_within t v) times) w false
any_in times None = none_in times
any_in times (Some v) = refl
