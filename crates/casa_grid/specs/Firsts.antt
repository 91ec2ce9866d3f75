-- inner contracts: slots counted period by period
use Rattle.std.specs.Prelude.{ℕ, ◌+◌, ◌-◌, ◌*◌, ◌/◌, List, [], ◌∷◌, length}
use Rattle.std.specs.List.{slice_get}
use Rattle.std.specs.Option.{option_map_or}
use Rattle.casa_grid.specs.declared.period.Period.{Period}
use Rattle.casa_grid.specs.Slots.{slot_count}

-- the number of each period's first slot, where n slots lie before the first period, and behind these how many slots
-- there are then
abbrev pub first_slots_from : ℕ → List Period → List ℕ
first_slots_from n [] = n ∷ []
first_slots_from n (p ∷ ps) = n ∷ first_slots_from (n + slot_count p) ps

abbrev pub first_slots : List Period → List ℕ
first_slots ps = first_slots_from 0 ps

-- how many slots of a period have ended by a moment at which the period has not
abbrev pub ended_by : Period → ℕ → ℕ
ended_by p at = ((at + 1 - p.begin) * p.rate - 1) / 3600

-- the last of these numbers
abbrev pub last_of : List ℕ → ℕ
last_of ns = option_map_or (λ (n : ℕ). n) (slice_get ns (length ns - 1)) 0

-- no period has more slots than two days have at the highest rate
abbrev pub most_slots : ℕ
most_slots = 28800
