-- the steps one by one, and where the slots begin
use Rattle.std.proofs.Common.{◌≡◌, ℕ, ◌+◌, ◌<◌, ◌∙◌, sym, ap, refl, List, [], ◌∷◌, ◌++◌, length, get_or, map, zero, suc, arith}
use Rattle.std.specs.List.{range_with_len}
use Rattle.std.proofs.lemmas.List.FromFn.{fill_by_all, map-range_with_len_more}
use Rattle.std.proofs.lemmas.List.{length-map, map-append}
use Rattle.casa_grid.specs.declared.slot.Window.{Window}
use Rattle.casa_grid.specs.Slots.{begin_at}

begin_at_get : (ws : List Window) (k : ℕ) → k < length ws → get_or (map (λ (w : Window). w.begin) ws) k 0 ≡ begin_at ws k
begin_at_get [] k lt = absurd (omega arith)
begin_at_get (w ∷ ws) zero lt = refl
begin_at_get (w ∷ ws) (suc k) lt = begin_at_get ws k (omega arith)

-- the slots' begins, one by one, are those of all slots
pub all_begins : (ws : List Window) → map (begin_at ws) (range_with_len 0 (length ws)) ≡ map (λ (w : Window). w.begin) ws
all_begins ws = sym (fill_by_all (begin_at ws) (map (λ (w : Window). w.begin) ws) (length ws) 0 (length-map ws _) (begin_at_get ws))

-- a step more, and its figures
pub one_more : {X Y : Type 0} (f : X → Y) (g : ℕ → X) (k : ℕ) → map f (map g (range_with_len 0 (k + 1))) ≡ map f (map g (range_with_len 0 k)) ++ f (g k) ∷ []
one_more f g k = ap (map f) (map-range_with_len_more g 0 k k (omega arith)) ∙ map-append f (map g (range_with_len 0 k)) (g k ∷ [])
